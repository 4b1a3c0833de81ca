-- The parser of an `if` with all that follows it is exact.
use Rattle.std.proofs.Common.{◌≡◌, ℕ, Bool, true, false, not, ◌⊎◌, List, [], ◌∷◌, ◌++◌, Ok, refl, sym, ap, ◌∙◌, inl, inr}
use Rattle.dpi_grammar.specs.Parser.{and_then, first}
use Rattle.dpi_grammar.proofs.Exact.{words, Is}
use Rattle.dpi_grammar.proofs.Rules.{Rule, never, seq, mapped, remade, told_as, token_then}
use Rattle.dpi_grammar.proofs.Many.{or_left, or_both}
use Rattle.dpi_grammar.proofs.Choices.{either}
use Rattle.dpi_grammar.proofs.Alternatives.{choice_past, narrowed, Passes}
use Rattle.dpi_grammar.proofs.Branches.{GoesOn, Parts, branched}
use Rattle.dpi_lex.specs.Words.{Word}
use Rattle.sv_tree.specs.declared.class.Class.TheVariants as classes
use Rattle.sv_tree.specs.declared.expr.Expr.{Expr}
use Rattle.sv_tree.specs.declared.statements.Stmt.{Stmt}
use Rattle.sv_tree.specs.declared.statements.Else.{Else}
use Rattle.sv_tree.specs.declared.statements.ElseIf.{ElseIf}
use Rattle.sv_tree.specs.Classes.{word_of, is_class, is}
use Rattle.sv_tree.specs.Statements.{stmt_told, else_if_told, else_told}
use Rattle.sv_tree.proofs.ClassLemmas.{knows}
use Rattle.sv_cursor.specs.Reading.{Parses}
use Rattle.sv_stmt.specs.declared.branches.ElsePart.TheVariants as parts
use Rattle.sv_stmt.specs.Front.{begins_statement}
use Rattle.sv_stmt.specs.ReadingStatements as spec
use Rattle.sv_stmt.proofs.Trees.{else_part, else_if}
use Rattle.sv_stmt.proofs.Goes.{a_stmt, open_else, stmt_bare, else_bare, else_if_bare}
use Rattle.sv_stmt.proofs.Fronts.{keyword_rule, at_depth}
use Rattle.sv_stmt.proofs.ItemRules.{condition_rule, NestedGood}
use Rattle.sv_stmt.proofs.BranchForms.{is_if, not_if, another, one_more, a_part, part_of, made_of, part_told, part_grabs, part_all, part_starts, parts_behind, an_if_stmt, if_of}
use Rattle.sv_stmt.proofs.StmtForms.{stmt_starts, another_viable}

-- ---- a statement that isn't an `if`

first_word : (w r : List Word) → begins_statement (first (w ++ [])) ≡ true → first (w ++ r) ≡ first w
first_word [] r e = absurd (cc)
first_word (t ∷ w) r e = refl

first_same : (n : ℕ) (s : Stmt) (r : List Word) → Is a_stmt n s → first (words a_stmt s ++ r) ≡ first (words a_stmt s)
first_same n s r h = first_word (words a_stmt s) r (stmt_starts n s [] h)

not_so : (b : Bool) → b ≡ false → not b ≡ true
not_so b e = ap not e

so_not : (b : Bool) → not b ≡ true → b ≡ false
so_not true e = sym e
so_not false e = refl

another_passes : Passes is_if not_if a_stmt
another_passes n s r h e = not_so _ (ap (is classes.If) (sym (first_same n s r h)) ∙ or_left _ _ e)

another_off : (n : ℕ) (s : Stmt) (r : List Word) → Is another n s → is_if (first (words a_stmt s ++ r)) ≡ false
another_off n s r h = or_both _ _ (ap (is classes.If) (first_same n s r h.1) ∙ so_not _ h.0) refl

-- ---- rules

one_more_rule : {live : Type 0} (m k : ℕ) (e : ℕ × Parses Stmt) → NestedGood live m e → Rule live never one_more (λ p. parts.ElseIf (else_if k p.0 p.1)) m (spec.else_if_tail e.0 e.1 k)
unfolding spec.else_if_tail
one_more_rule m k e good =
    token_then (is classes.If) (word_of classes.If) (knows classes.If refl) refl
    (seq (λ c. c) (λ c b. parts.ElseIf (else_if k c b)) _ (at_depth spec.condition e.0 good.0 condition_rule) (λ c. mapped (λ b. parts.ElseIf (else_if k c b)) good.1))

another_rule : {live : Type 0} (m k : ℕ) (e : ℕ × Parses Stmt) → NestedGood live m e → Rule live is_if another (λ s. parts.Else (else_part k s)) m (spec.else_tail e.0 e.1 k)
unfolding spec.else_tail
another_rule m k e good = narrowed is_if not_if a_stmt another_passes (another_viable m) another_off (mapped (λ b. parts.Else (else_part k b)) good.1)

made_by : (k : ℕ) (x : (Expr × Stmt) ⊎ Stmt) → made_of (part_of k x) ≡ either (λ p. parts.ElseIf (else_if k p.0 p.1)) (λ s. parts.Else (else_part k s)) x
made_by k (inl p) = refl
made_by k (inr s) = refl

else_part_rule : {live : Type 0} (m : ℕ) (e : ℕ × Parses Stmt) → NestedGood live m e → Rule live never a_part made_of m (spec.else_part e.0 e.1)
unfolding spec.else_part
else_part_rule m e good =
    told_as a_part (λ p. part_of p.0 p.1) made_of part_told part_grabs part_all
    (keyword_rule classes.Else (λ k x. made_of (part_of k x)) (λ k s. _) refl
    (λ k. remade (λ x. made_of (part_of k x)) (made_by k)
    (choice_past (is classes.If) never one_more another (λ n x r h. (knows classes.If refl).yes) (one_more_rule m k e good) (another_rule m k e good))))

sorted : (x : ElseIf ⊎ Else) → x ≡ spec.sort (made_of x)
sorted (inl p) = refl
sorted (inr p) = refl

sorted_rule : {live : Type 0} (m : ℕ) (e : ℕ × Parses Stmt) → NestedGood live m e → Rule live never a_part (λ w. w) m (λ s. and_then (spec.else_part e.0 e.1 s) (λ x s. Ok (spec.sort x, s)))
sorted_rule m e good = remade (λ w. w) sorted (mapped spec.sort (else_part_rule m e good))

part_goes_on : (w : ElseIf ⊎ Else) → GoesOn (is classes.Else) a_part (a_part.grabs w) (a_part.told w).unended
part_goes_on (inl p) t e = open_else (else_if_told p).unended (else_if_bare p) t e
part_goes_on (inr p) t e = open_else (else_told p).unended (else_bare p) t e

else_parts : Parts (is classes.Else) a_part
unfolding is_class
else_parts = record { starts = part_starts; stop = refl; goes_on = part_goes_on }

parts_rule : {live : Type 0} (m : ℕ) (e : ℕ × Parses Stmt) → NestedGood live m e → (s : Stmt) → Rule live (a_stmt.grabs s) (parts_behind s) (λ p. p) m (spec.else_parts e.0 e.1)
parts_rule m e good s = branched (is classes.Else) else_parts (a_stmt.grabs s) (stmt_told s).unended (λ t go. open_else (stmt_told s).unended (stmt_bare s) t go) (sorted_rule m e good)

pub if_rule : {live : Type 0} (m : ℕ) (e : ℕ × Parses Stmt) → NestedGood live m e → Rule live never an_if_stmt if_of m (spec.if_by e.0 e.1)
unfolding spec.if_by spec.if_tail spec.if_end
if_rule m e good =
    keyword_rule classes.If (λ k p. if_of (k, p)) (λ k s. and_then (spec.condition e.0 s) (λ c s. _)) refl
    (λ k. seq (λ c. c) (λ c p. if_of (k, (c, p))) _ (at_depth spec.condition e.0 good.0 condition_rule)
    (λ c. seq (λ b. b) (λ b p. if_of (k, (c, (b, p)))) _ good.1
    (λ b. mapped (λ p. if_of (k, (c, (b, p)))) (parts_rule m e good b))))
