-- The parsers of loops and of a `case` are exact.
use Rattle.std.proofs.Common.{ℕ, Bool, refl}
use Rattle.dpi_grammar.specs.Parser.{and_then, expect}
use Rattle.dpi_grammar.proofs.Rules.{Rule, never, seq, mapped, token_then, last}
use Rattle.dpi_lex.specs.Words.{Word}
use Rattle.sv_tree.specs.declared.class.Class.TheVariants as classes
use Rattle.sv_tree.specs.declared.statements.Stmt.{Stmt}
use Rattle.sv_tree.specs.declared.statements.Stmt.TheVariants as stmts
use Rattle.sv_tree.specs.Classes.{word_of, is}
use Rattle.sv_tree.proofs.ClassLemmas.{knows}
use Rattle.sv_cursor.specs.Reading.{Parses}
use Rattle.sv_expr.specs.Reading.{expr}
use Rattle.sv_expr.proofs.Frees.{expr_stops}
use Rattle.sv_expr.proofs.ExprRules.{expr_rule}
use Rattle.sv_stmt.specs.ReadingChanges.{start, change}
use Rattle.sv_stmt.specs.ReadingStatements as spec
use Rattle.sv_stmt.proofs.Fronts.{keyword_rule, at_depth}
use Rattle.sv_stmt.proofs.ChangeRules.{start_rule, start_stops, change_rule, change_stops}
use Rattle.sv_stmt.proofs.ItemRules.{condition_rule, items_rule, items_end, NestedGood}
use Rattle.sv_stmt.proofs.StmtFronts.{a_case, a_guarded, a_forever, a_for, case_of, for_of}

-- ---- "while", "repeat" and "forever"

pub while_rule : {live : Type 0} (m : ℕ) (e : ℕ × Parses Stmt) → NestedGood live m e → Rule live never (a_guarded classes.While) (λ p. stmts.While p.0 p.1.0 p.1.1) m (spec.while_by e.0 e.1)
unfolding spec.while_by
while_rule m e good =
    keyword_rule classes.While (λ k p. stmts.While k p.0 p.1) (λ k s. and_then (spec.condition e.0 s) (λ c s. _)) refl
    (λ k. seq (λ c. c) (λ c b. stmts.While k c b) _ (at_depth spec.condition e.0 good.0 condition_rule) (λ c. mapped (λ b. stmts.While k c b) good.1))

pub repeat_rule : {live : Type 0} (m : ℕ) (e : ℕ × Parses Stmt) → NestedGood live m e → Rule live never (a_guarded classes.Repeat) (λ p. stmts.Repeat p.0 p.1.0 p.1.1) m (spec.repeat_by e.0 e.1)
unfolding spec.repeat_by
repeat_rule m e good =
    keyword_rule classes.Repeat (λ k p. stmts.Repeat k p.0 p.1) (λ k s. and_then (spec.condition e.0 s) (λ c s. _)) refl
    (λ k. seq (λ c. c) (λ c b. stmts.Repeat k c b) _ (at_depth spec.condition e.0 good.0 condition_rule) (λ c. mapped (λ b. stmts.Repeat k c b) good.1))

pub forever_rule : {live : Type 0} (m : ℕ) (e : ℕ × Parses Stmt) → NestedGood live m e → Rule live never a_forever (λ p. stmts.Forever p.0 p.1) m (spec.forever_by e.0 e.1)
unfolding spec.forever_by
forever_rule m e good = keyword_rule classes.Forever (λ k b. stmts.Forever k b) (λ k s. and_then (e.1 s) (λ b s. _)) refl (λ k. mapped (λ b. stmts.Forever k b) good.1)

-- ---- "for"

pub for_rule : {live : Type 0} (m : ℕ) (e : ℕ × Parses Stmt) → NestedGood live m e → Rule live never a_for for_of m (spec.for_by e.0 e.1)
unfolding spec.for_by spec.for_tail
for_rule m e good =
    keyword_rule classes.For (λ k p. for_of (k, p)) (λ k s. and_then (expect (is classes.OpenParen) s) (λ _ s. _)) refl
    (λ k. token_then (is classes.OpenParen) (word_of classes.OpenParen) (knows classes.OpenParen refl) refl
    (seq (λ a. a) (λ a p. for_of (k, (a, p))) _ (at_depth start e.0 good.0 start_rule)
    (λ a. token_then (is classes.Semicolon) (word_of classes.Semicolon) (knows classes.Semicolon refl) (start_stops classes.Semicolon refl refl a)
    (seq (λ x. x) (λ x p. for_of (k, (a, (x, p)))) _ (at_depth expr e.0 good.0 (λ d. expr_rule d (λ t e. refl)))
    (λ x. token_then (is classes.Semicolon) (word_of classes.Semicolon) (knows classes.Semicolon refl) (expr_stops classes.Semicolon refl refl x)
    (seq (λ c. c) (λ c b. for_of (k, (a, (x, (c, b))))) _ (at_depth change e.0 good.0 (λ d. change_rule d (λ t e. refl)))
    (λ c. token_then (is classes.CloseParen) (word_of classes.CloseParen) (knows classes.CloseParen refl) (change_stops classes.CloseParen refl refl c)
    (mapped (λ b. for_of (k, (a, (x, (c, b))))) good.1))))))))

-- ---- "case"

pub case_rule : {live : Type 0} (m : ℕ) (e : ℕ × Parses Stmt) → NestedGood live m e → Rule live never a_case case_of m (spec.case_by e.0 e.1)
unfolding spec.case_by
case_rule m e good =
    keyword_rule classes.Case (λ k p. case_of (k, p)) (λ k s. and_then (spec.condition e.0 s) (λ c s. _)) refl
    (λ k. seq (λ c. c) (λ c p. case_of (k, (c, p))) _ (at_depth spec.condition e.0 good.0 condition_rule)
    (λ c. seq (λ xs. xs) (λ xs _. stmts.Case k c xs) _ (items_rule m e good)
    (λ xs. last (is classes.EndCase) (word_of classes.EndCase) (stmts.Case k c xs) (knows classes.EndCase refl) (items_end xs))))
