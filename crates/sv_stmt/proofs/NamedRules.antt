-- The parsers of statements that begin with a name are exact.
use Rattle.std.proofs.Common.{◌≡◌, ℕ, ◌+◌, max, Bool, false, ◌||◌, ◌⊎◌, List, [], ◌∷◌, ◌++◌, map, Option, refl, ap, ◌∙◌, arith, inl, inr}
use Rattle.dpi_grammar.specs.Told.{◌&◌, deeper, word, each, says}
use Rattle.dpi_grammar.specs.Parser.{refuse}
use Rattle.dpi_grammar.proofs.Exact.{Kind, pair}
use Rattle.dpi_grammar.proofs.Forms.{within}
use Rattle.dpi_grammar.proofs.Rules.{Rule, never, seq, dead}
use Rattle.dpi_grammar.proofs.Many.{Starts, and_assoc}
use Rattle.dpi_grammar.proofs.Choices.{Enters, sum, either, choice, choice_deeper}
use Rattle.dpi_grammar.proofs.Firsts.{list_apart, in_left, in_right}
use Rattle.dpi_lex.specs.Words.{Word}
use Rattle.sv_tree.specs.declared.class.Class.{Class}
use Rattle.sv_tree.specs.declared.class.Class.TheVariants as classes
use Rattle.sv_tree.specs.declared.leaves.Name.{Name}
use Rattle.sv_tree.specs.declared.expr.Expr.{Expr}
use Rattle.sv_tree.specs.declared.expr.Select.{Select}
use Rattle.sv_tree.specs.declared.statements.Stmt.{Stmt}
use Rattle.sv_tree.specs.declared.statements.Stmt.TheVariants as stmts
use Rattle.sv_tree.specs.Classes.{word_of, is_class, is}
use Rattle.sv_tree.specs.Expressions.{Tells, quoted, name_told, select_told}
use Rattle.sv_tree.specs.Statements.{stmt_told}
use Rattle.sv_tree.proofs.ClassLemmas.{knows}
use Rattle.sv_cursor.specs.Reading.{Parses}
use Rattle.sv_cursor.proofs.Tokens.{name_class}
use Rattle.sv_cursor.proofs.LeafRules.{a_name, name_rule}
use Rattle.sv_types.proofs.Choices.{pair_starts}
use Rattle.sv_expr.specs.Reading.{inside}
use Rattle.sv_expr.proofs.Goes.{a_select}
use Rattle.sv_expr.proofs.Trees.{lvalue, call, lvalue_tells, call_tells}
use Rattle.sv_expr.proofs.Starts.{select_starts, expr_viable}
use Rattle.sv_expr.proofs.ExprRules.{inside_good, selects_rule}
use Rattle.sv_expr.proofs.PartRules.{Good, some_actuals, actuals_by_rule}
use Rattle.sv_expr.proofs.SelectRules.{some_selects}
use Rattle.sv_stmt.specs.ReadingStatements as spec
use Rattle.sv_stmt.proofs.Trees.{stmt_tells}
use Rattle.sv_stmt.proofs.Fronts.{Fronts, by_class, off_by, sum_fronts, apart_class}
use Rattle.sv_stmt.proofs.ChangeRules.{ChangeTail, a_change_tail, change_of, is_change, change_front, change_tail_rule, change_tail_stops, change_told_by}
use Rattle.sv_stmt.proofs.PlainRules.{a_semicolon, ended_rule}

-- ---- kinds of what stands behind the name

-- "(" (expr,+)? ")" ";"
abbrev pub in_call : Kind Word ((ℕ × List Expr) × Unit {0})
in_call = pair some_actuals (λ _. a_semicolon)

-- select* and the rest of a change, and ";"
abbrev pub a_changed : Kind Word (List Select × (ChangeTail × Unit {0}))
a_changed = pair (some_selects never) (λ _. pair a_change_tail (λ _. a_semicolon))

abbrev pub NamedTail : Type 0
NamedTail = Unit {0} ⊎ (((ℕ × List Expr) × Unit {0}) ⊎ (List Select × (ChangeTail × Unit {0})))

abbrev pub a_named_tail : Kind Word NamedTail
a_named_tail = sum a_semicolon (sum (within in_call) a_changed)

abbrev called : Name → (ℕ × List Expr) × Unit {0} → Stmt
called n p = stmts.Call (call n p.0.0 p.0.1)

abbrev changed : Name → List Select × (ChangeTail × Unit {0}) → Stmt
changed n p = stmts.Change (change_of (lvalue n p.0) p.1.0)

abbrev pub named_of : Name → NamedTail → Stmt
named_of n = either (λ _. stmts.Name n) (either (called n) (changed n))

abbrev pub a_named : Kind Word (Name × NamedTail)
a_named = pair a_name (λ _. a_named_tail)

-- ---- what they begin with

abbrev is_changed : Option Class → Bool
is_changed c = is_class classes.OpenBracket c || is_change c

select_front : Starts (is classes.OpenBracket) a_select
select_front n x r h = ap (is classes.OpenBracket) (select_starts n x r h) ∙ (knows classes.OpenBracket refl).yes

abbrev rest_changed : Kind Word (ChangeTail × Unit {0})
rest_changed = pair a_change_tail (λ _. a_semicolon)

changed_front : Fronts is_changed a_changed
changed_front n ([], x) r h = in_right _ _ (pair_starts (by_class is_change) a_change_tail (λ _. a_semicolon) change_front n x r h)
changed_front n (s ∷ ss, x) r h =
    in_left _ _ (pair_starts (is classes.OpenBracket) (pair a_select (λ _. some_selects never)) (λ _. rest_changed)
    (pair_starts (is classes.OpenBracket) a_select (λ _. some_selects never) select_front) n ((s, ss), x) r h)

call_front : Fronts (is_class classes.OpenParen) (within in_call)
call_front n x r h = (knows classes.OpenParen refl).yes

pub named_front : Fronts (is_class classes.Name) a_named
named_front n p r h = name_class p.0.bytes h.1.0

-- ---- rules

name_tail_rule : {live : Type 0} {d : ℕ} (n : Name) → Rule live never a_semicolon (λ _. stmts.Name n) d (spec.name_tail n)
unfolding spec.name_tail
name_tail_rule n = ended_rule (stmts.Name n) refl

call_tail_rule : {live : Type 0} (n : Name) (m : ℕ) (e : Parses Expr) → Good live m e → Rule live never in_call (called n) m (spec.call_tail n e)
unfolding spec.call_tail
call_tail_rule n m e good = seq (λ p. p) (λ p _. called n (p, tt)) _ (actuals_by_rule good) (λ p. ended_rule (called n (p, tt)) refl)

call_enters : (n : Name) → Enters Good (is classes.OpenParen) (word_of classes.OpenParen) in_call (called n) (spec.call_tail n)
call_enters n = record {
  rule = λ live m e good. call_tail_rule n m e good;
  some = refuse;
  dead = λ m. dead (expr_viable m);
  knows = knows classes.OpenParen refl;
  starts = λ k x r h. refl;
}

changed_tail_rule : {live : Type 0} (d : ℕ) (n : Name) → Rule live never a_changed (changed n) d (spec.changed_tail d n)
unfolding spec.changed_tail is_class
changed_tail_rule d n =
    seq (λ ss. ss) (λ ss p. changed n (ss, p)) _ (selects_rule never d (λ t e. refl))
    (λ ss. seq (change_of (lvalue n ss)) (λ c _. changed n (ss, (c, tt))) _
    (change_tail_rule d (lvalue n ss) (list_apart (by_class is_change) (is classes.OpenBracket) never a_select (apart_class is_change classes.OpenBracket refl) (λ t e. refl) (λ x t e. refl) ss))
    (λ c. ended_rule (changed n (ss, (c, tt))) (change_tail_stops classes.Semicolon refl refl c)))

behind_name_rule : (d : ℕ) (n : Name) → Rule (Unit {0}) never a_named_tail (named_of n) d (spec.behind_name d n)
unfolding spec.behind_name is_class
behind_name_rule d n =
    choice (is classes.Semicolon) (λ k x r h. (knows classes.Semicolon refl).yes)
    (off_by classes.Semicolon (λ c. is_class classes.OpenParen c || is_changed c) (sum (within in_call) a_changed) (sum_fronts (is_class classes.OpenParen) is_changed (within in_call) a_changed call_front changed_front) refl)
    (name_tail_rule n)
    (choice_deeper Good (is classes.OpenParen) (word_of classes.OpenParen) in_call (called n) (spec.call_tail n) (call_enters n) a_changed (changed n)
    (off_by classes.OpenParen is_changed a_changed changed_front refl) refl (inside d) (inside_good d) (changed_tail_rule {live = Unit {0}} 0 n).closes (changed_tail_rule d n))

pub named_rule : (d : ℕ) → Rule (Unit {0}) never a_named (λ p. named_of p.0 p.1) d (spec.named d)
unfolding spec.named
named_rule d = seq (λ n. n) named_of (spec.behind_name d) (name_rule (λ t e. refl)) (λ n. behind_name_rule d n)

-- ---- what they tell

deeper_then : (a : Tells) (w : Word) → deeper a & word w ≡ deeper (a & word w)
deeper_then a w =
    let levels : max (a.levels + 1) 0 ≡ max a.levels 0 + 1 = omega arith in
    ap (λ n. let t : Tells = record { atoms = a.atoms ++ (says w ∷ []); levels = n; unended = false } in t) levels

called_told : (n : Name) (p : (ℕ × List Expr) × Unit {0}) → stmt_told (called n p) ≡ name_told n & (within in_call).told p
called_told n p =
    let actuals = some_actuals.told p.0 in
    stmt_tells (called n p) _ (stmts.outs-Call (call n p.0.0 p.0.1))
    ∙ ap (λ (c : Tells). c & quoted classes.Semicolon) (call_tells n p.0.0 p.0.1)
    ∙ and_assoc (name_told n) (deeper actuals) (quoted classes.Semicolon)
    ∙ ap (λ (a : Tells). name_told n & a) (deeper_then actuals (word_of classes.Semicolon))

changed_told : (n : Name) (p : List Select × (ChangeTail × Unit {0})) → stmt_told (changed n p) ≡ name_told n & a_changed.told p
changed_told n p =
    let selects = each (map select_told p.0) in
    let tail = a_change_tail.told p.1.0 in
    stmt_tells (changed n p) _ (stmts.outs-Change (change_of (lvalue n p.0) p.1.0))
    ∙ ap (λ (c : Tells). c & quoted classes.Semicolon) (change_told_by (lvalue n p.0) p.1.0 ∙ ap (λ (l : Tells). l & tail) (lvalue_tells n p.0) ∙ and_assoc (name_told n) selects tail)
    ∙ and_assoc (name_told n) (selects & tail) (quoted classes.Semicolon)
    ∙ ap (λ (a : Tells). name_told n & a) (and_assoc selects tail (quoted classes.Semicolon))

pub named_told : (n : Name) (x : NamedTail) → stmt_told (named_of n x) ≡ name_told n & a_named_tail.told x
named_told n (inl u) = stmt_tells (stmts.Name n) _ (stmts.outs-Name n)
named_told n (inr (inl p)) = called_told n p
named_told n (inr (inr p)) = changed_told n p
