-- An `if` with all that follows it: its kinds.
use Rattle.std.proofs.Common.{◌≡◌, ℕ, Bool, true, not, ◌||◌, ◌⊎◌, List, [], ◌∷◌, map, Option, Some, None, refl, sym, ap, ◌∙◌, inl, inr}
use Rattle.std.specs.Prelude.{option_map}
use Rattle.dpi_grammar.specs.Told.{elses}
use Rattle.dpi_grammar.specs.Parser.{first}
use Rattle.dpi_grammar.proofs.Exact.{Kind, words, pair}
use Rattle.dpi_grammar.proofs.Forms.{within}
use Rattle.dpi_grammar.proofs.Rules.{never, behind}
use Rattle.dpi_grammar.proofs.Many.{Starts, ends}
use Rattle.dpi_grammar.proofs.Choices.{sum, either}
use Rattle.dpi_grammar.proofs.Alternatives.{narrow}
use Rattle.dpi_grammar.proofs.Branches.{tail}
use Rattle.dpi_lex.specs.Words.{Word}
use Rattle.sv_tree.specs.declared.class.Class.TheVariants as classes
use Rattle.sv_tree.specs.declared.expr.Expr.{Expr}
use Rattle.sv_tree.specs.declared.statements.Stmt.{Stmt}
use Rattle.sv_tree.specs.declared.statements.Stmt.TheVariants as stmts
use Rattle.sv_tree.specs.declared.statements.Else.{Else, out-Else, roll-out-Else}
use Rattle.sv_tree.specs.declared.statements.ElseIf.{ElseIf, out-ElseIf, roll-out-ElseIf}
use Rattle.sv_tree.specs.Classes.{word_of, is}
use Rattle.sv_tree.specs.Expressions.{Tells}
use Rattle.sv_tree.specs.Statements.{stmt_told, else_if_told, else_told}
use Rattle.sv_stmt.specs.declared.branches.ElsePart.{ElsePart}
use Rattle.sv_stmt.specs.declared.branches.ElsePart.TheVariants as parts
use Rattle.sv_stmt.proofs.Trees.{else_part, else_if, branch, else_tells, else_if_tells, if_tells, stmt_tells}
use Rattle.sv_stmt.proofs.Goes.{a_stmt, an_else, an_else_if, open_grabs, unended_grabs, last_of, bare_if_by, stmt_bare, else_bare, else_if_bare, if_bare, if_bare_is, stmt_grabs_are, else_grabs_are, else_if_grabs_are}
use Rattle.sv_stmt.proofs.Fronts.{keyword, keyword_front, starts_as}
use Rattle.sv_stmt.proofs.ItemRules.{a_condition}

-- ---- what begins with `else`

abbrev pub is_if : Option Word → Bool
is_if t = is classes.If t || never t

-- a statement that isn't an `if`
abbrev pub not_if : Stmt → Bool
not_if s = not (is classes.If (first (words a_stmt s)))

abbrev pub another : Kind Word Stmt
another = narrow is_if not_if a_stmt

-- "if" "(" expr ")" stmt
abbrev pub one_more : Kind Word (Expr × Stmt)
one_more = behind (word_of classes.If) (pair a_condition (λ _. a_stmt))

abbrev pub in_part : Kind Word (ℕ × ((Expr × Stmt) ⊎ Stmt))
in_part = keyword classes.Else (sum one_more another)

abbrev pub a_part : Kind Word (ElseIf ⊎ Else)
a_part = sum an_else_if an_else

abbrev pub part_of : ℕ → (Expr × Stmt) ⊎ Stmt → ElseIf ⊎ Else
part_of k = either (λ p. inl (else_if k p.0 p.1)) (λ s. inr (else_part k s))

abbrev pub made_of : ElseIf ⊎ Else → ElsePart
made_of = either parts.ElseIf parts.Else

pub part_told : (p : ℕ × ((Expr × Stmt) ⊎ Stmt)) → a_part.told (part_of p.0 p.1) ≡ in_part.told p
part_told (k, inl p) = else_if_tells k p.0 p.1
part_told (k, inr s) = else_tells k s

pub part_grabs : (p : ℕ × ((Expr × Stmt) ⊎ Stmt)) (t : Option Word) → a_part.grabs (part_of p.0 p.1) t ≡ in_part.grabs p t
part_grabs (k, inl p) t = else_if_grabs_are k p.0 p.1 t
part_grabs (k, inr s) t = else_grabs_are k s t

pub part_all : (z : ElseIf ⊎ Else) → (p : ℕ × ((Expr × Stmt) ⊎ Stmt)) × (part_of p.0 p.1 ≡ z)
part_all (inl p) = let o = out-ElseIf p in ((o.token, inl (o.condition, o.body)), ap inl (roll-out-ElseIf p))
part_all (inr e) = let o = out-Else e in ((o.token, inr o.body), ap inr (roll-out-Else e))

pub part_starts : Starts (is classes.Else) a_part
part_starts = starts_as (is classes.Else) a_part in_part (λ p. part_of p.0 p.1) part_told part_all (keyword_front classes.Else (sum one_more another) refl)

-- what follows a statement
abbrev pub parts_behind : Stmt → Kind Word (List ElseIf × Option Else)
parts_behind s = tail (is classes.Else) a_part (a_stmt.grabs s) (stmt_told s).unended

-- ---- "if"

abbrev pub in_if : Kind Word (Expr × (Stmt × (List ElseIf × Option Else)))
in_if = pair a_condition (λ _. pair a_stmt parts_behind)

abbrev pub an_if_stmt : Kind Word (ℕ × (Expr × (Stmt × (List ElseIf × Option Else))))
an_if_stmt = keyword classes.If in_if

abbrev pub if_of : ℕ × (Expr × (Stmt × (List ElseIf × Option Else))) → Stmt
if_of p = stmts.If (branch p.0 p.1.0 p.1.1.0 p.1.1.1.0 p.1.1.1.1)

-- ---- what it goes on with

none_unended : (b : Bool) (ps : List ElseIf) → (elses b (map else_if_told ps) None).unended ≡ true
none_unended b [] = refl
none_unended b (p ∷ ps) = none_unended (else_if_told p).unended ps

some_unended : (b : Bool) (ps : List ElseIf) (l : Else) → (elses b (map else_if_told ps) (Some (else_told l))).unended ≡ (else_told l).unended
some_unended b [] l = refl
some_unended b (p ∷ ps) l = some_unended (else_if_told p).unended ps l

none_grabs : (u c : Bool) (ps : List ElseIf) (t : Option Word) → (is classes.Else t || ends (open_grabs u c) (map an_else_if.grabs ps) t) ≡ open_grabs true (last_of c (map else_if_bare ps)) t
none_grabs u c [] t = unended_grabs u c t
none_grabs u c (p ∷ ps) t = none_grabs (else_if_told p).unended (else_if_bare p) ps t

tail_is : (s : Stmt) (ps : List ElseIf) (l : Option Else) (t : Option Word)
    → open_grabs (elses (stmt_told s).unended (map else_if_told ps) (option_map else_told l)).unended (bare_if_by (stmt_bare s) (map else_if_bare ps) (option_map else_bare l)) t ≡ (parts_behind s).grabs (ps, l) t
tail_is s ps None t = ap (λ u. open_grabs u (last_of (stmt_bare s) (map else_if_bare ps)) t) (none_unended (stmt_told s).unended ps) ∙ sym (none_grabs (stmt_told s).unended (stmt_bare s) ps t)
tail_is s ps (Some l) t = ap (λ u. open_grabs u (else_bare l) t) (some_unended (stmt_told s).unended ps l)

pub if_of_told : (p : ℕ × (Expr × (Stmt × (List ElseIf × Option Else)))) → stmt_told (if_of p) ≡ (within an_if_stmt).told p
if_of_told (k, (c, (b, (ps, l)))) = stmt_tells (stmts.If (branch k c b ps l)) _ (stmts.outs-If (branch k c b ps l)) ∙ if_tells k c b ps l

pub if_of_grabs : (p : ℕ × (Expr × (Stmt × (List ElseIf × Option Else)))) (t : Option Word) → a_stmt.grabs (if_of p) t ≡ an_if_stmt.grabs p t
if_of_grabs (k, (c, (b, (ps, l)))) t =
    stmt_grabs_are (stmts.If (branch k c b ps l)) _ (stmts.outs-If (branch k c b ps l)) t
    ∙ ap (λ (a : Tells). open_grabs a.unended (if_bare (branch k c b ps l)) t) (if_tells k c b ps l)
    ∙ ap (λ x. open_grabs (elses (stmt_told b).unended (map else_if_told ps) (option_map else_told l)).unended x t) (if_bare_is k c b ps l)
    ∙ tail_is b ps l t
