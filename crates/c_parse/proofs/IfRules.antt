-- The parser of an `if`, with the parts behind it, is exact, where those of its parts are.
use Rattle.std.proofs.Common.{◌≡◌, ℕ, ◌≤◌, max, Bool, true, false, not, ◌||◌, ◌&&◌, ◌⊎◌, List, [], ◌∷◌, ◌++◌, map, Option, Some, None, refl, sym, ap, ◌∙◌, subst, arith, inl, inr}
use Rattle.dpi_grammar.specs.Told.{words_in, IsRight}
use Rattle.dpi_grammar.specs.Parser.{and_then, first, expect}
use Rattle.dpi_grammar.proofs.Lists.{true_not_false}
use Rattle.dpi_grammar.proofs.Exact.{Kind, words, Viable, pair}
use Rattle.dpi_grammar.proofs.Forms.{Form, told_form, within}
use Rattle.dpi_grammar.proofs.Rules.{Rule, never, place, behind, told_as, numbered, token_then, seq, mapped}
use Rattle.dpi_grammar.proofs.Many.{Starts, ends, or_left, or_both}
use Rattle.dpi_grammar.proofs.Choices.{either, sum}
use Rattle.dpi_grammar.proofs.Alternatives.{choice_past, narrow, narrowed}
use Rattle.dpi_grammar.proofs.Branches.{tail, tail_grabs, GoesOn, Parts, tail_goes_on, branched}
use Rattle.dpi_lex.specs.Words.{Word}
use Rattle.c_tree.specs.declared.class.Class.TheVariants as classes
use Rattle.c_tree.specs.declared.expr.CExpr.{CExpr}
use Rattle.c_tree.specs.declared.statements.Stmt.{Stmt, roll-Stmt}
use Rattle.c_tree.specs.declared.statements.Stmt.TheVariants as stmts
use Rattle.c_tree.specs.declared.statements.Else.{Else, out-Else, roll-out-Else}
use Rattle.c_tree.specs.declared.statements.ElseIf.{ElseIf, out-ElseIf, roll-out-ElseIf}
use Rattle.c_tree.specs.declared.statements.If.{If, out-If, roll-out-If}
use Rattle.c_tree.specs.declared.statements.Part.TheOpen.{Stmt-F}
use Rattle.c_tree.specs.Classes.{word_of, is}
use Rattle.c_tree.specs.Leaves.{Tells}
use Rattle.c_tree.specs.Statements.{stmt_told, else_if_told, else_told}
use Rattle.c_tree.proofs.ClassLemmas.{knows}
use Rattle.c_cursor.specs.Reading.{Parses}
use Rattle.c_cursor.proofs.Tokens.{word_is_not}
use Rattle.c_parse.specs.declared.branch.Branch.{Branch}
use Rattle.c_parse.specs.declared.branch.Branch.TheVariants as behind_if
use Rattle.c_parse.specs.declared.front.Front.TheVariants as fronts
use Rattle.c_parse.specs.declared.front.Nest.TheVariants as nests
use Rattle.c_parse.specs.Front.{begins_stmt}
use Rattle.c_parse.specs.ReadingStatements as spec
use Rattle.c_expr.proofs.Goes.{an_expr}
use Rattle.c_parse.proofs.Goes.{else_grabs, a_stmt, an_else_if, an_else}
use Rattle.c_parse.proofs.Trees.{Layer, else_if, last_else, branch, else_if_tells, else_tells, branch_tells, stmt_tells}
use Rattle.c_parse.proofs.VariableRules.{no_class}
use Rattle.c_parse.proofs.Fronts.{layer_front, stmt_starts}
use Rattle.c_parse.proofs.Tokens.{no_stmt}
use Rattle.c_parse.proofs.SimpleRules.{empty_tells, a_condition, condition_rule}

-- ---- the statement behind a last `else`

abbrev not_if : Stmt → Bool
not_if s = not (is classes.If (first (words a_stmt s)))

-- no `if` comes next
abbrev no_if : Option Word → Bool
no_if t = is classes.If t || never t

abbrev last_body : Kind Word Stmt
last_body = narrow no_if not_if a_stmt

fine_by : (w r : List Word) → begins_stmt (first (w ++ [])) ≡ true → no_if (first (w ++ r)) ≡ false → not (is classes.If (first w)) ≡ true
fine_by [] r begins e = true_not_false (begins_stmt None) begins no_stmt
fine_by (t ∷ w) r begins e = ap not (or_left _ _ e)

off_by : (b : Bool) → not b ≡ true → b ≡ false
off_by true e = sym e
off_by false e = refl

other_by : (w r : List Word) → begins_stmt (first (w ++ [])) ≡ true → not (is classes.If (first w)) ≡ true → no_if (first (w ++ r)) ≡ false
other_by [] r begins e = true_not_false (begins_stmt None) begins no_stmt
other_by (t ∷ w) r begins e = or_both _ _ (off_by _ e) refl

last_viable : (d n : ℕ) → Viable last_body d n []
last_viable d n =
    let e = empty_tells (n, tt) in
    record {
      tree = stmts.Empty n;
      left = words a_stmt (stmts.Empty n);
      begins = refl;
      is = (
        ap (λ (a : Tells). not (is classes.If (first (words_in a.atoms)))) e ∙ ap not (word_is_not classes.If classes.Semicolon refl refl),
        subst (λ (a : Tells). IsRight n a.atoms) (sym e) (refl, tt),
      );
      few = subst (λ (a : Tells). max 0 a.levels ≤ d) (sym e) (omega arith);
    }

-- ---- the parts behind an `if`

abbrev else_if_parts : Kind Word (CExpr × Stmt)
else_if_parts = behind (word_of classes.If) (pair a_condition (λ _. a_stmt))

abbrev part_parts : Kind Word (ℕ × ((CExpr × Stmt) ⊎ Stmt))
part_parts = pair (place never) (λ _. behind (word_of classes.Else) (sum else_if_parts last_body))

abbrev pub a_branch : Kind Word (ElseIf ⊎ Else)
a_branch = sum an_else_if an_else

abbrev branch_value : ℕ → (CExpr × Stmt) ⊎ Stmt → Branch
branch_value k = either (λ p. behind_if.Other (else_if k p.0 p.1)) (λ b. behind_if.Last (last_else k b))

abbrev branch_made : ℕ × ((CExpr × Stmt) ⊎ Stmt) → ElseIf ⊎ Else
branch_made p = spec.branch_sort (branch_value p.0 p.1)

branch_told_as : (p : ℕ × ((CExpr × Stmt) ⊎ Stmt)) → a_branch.told (branch_made p) ≡ part_parts.told p
branch_told_as (k, inl p) = else_if_tells k p.0 p.1
branch_told_as (k, inr b) = else_tells k b

branch_goes : (p : ℕ × ((CExpr × Stmt) ⊎ Stmt)) (t : Option Word) → a_branch.grabs (branch_made p) t ≡ part_parts.grabs p t
branch_goes (k, inl p) t = ap (λ (a : Tells). else_grabs a t) (else_if_tells k p.0 p.1)
branch_goes (k, inr b) t = ap (λ (a : Tells). else_grabs a t) (else_tells k b)

branch_all : (z : ElseIf ⊎ Else) → (p : ℕ × ((CExpr × Stmt) ⊎ Stmt)) × (branch_made p ≡ z)
branch_all (inl p) = (((out-ElseIf p).token, inl ((out-ElseIf p).condition, (out-ElseIf p).body)), ap inl (roll-out-ElseIf p))
branch_all (inr b) = (((out-Else b).token, inr (out-Else b).body), ap inr (roll-out-Else b))

branch_starts_by : (p : ℕ × ((CExpr × Stmt) ⊎ Stmt)) (r : List Word) → is classes.Else (first (words a_branch (branch_made p) ++ r)) ≡ true
branch_starts_by p r = ap (λ (a : Tells). is classes.Else (first (words_in a.atoms ++ r))) (branch_told_as p) ∙ (knows classes.Else refl).yes

branch_starts : Starts (is classes.Else) a_branch
branch_starts n z r h = let m = branch_all z in subst (λ z. is classes.Else (first (words a_branch z ++ r)) ≡ true) m.1 (branch_starts_by m.0 r)

else_goes : (a : Tells) (t : Option Word) → is classes.Else t ≡ true → else_grabs a t ≡ a.unended
else_goes a t e = ap (λ b. b && a.unended) e

branch_goes_on : (w : ElseIf ⊎ Else) → GoesOn (is classes.Else) a_branch (a_branch.grabs w) (a_branch.told w).unended
branch_goes_on (inl p) t e = else_goes (else_if_told p) t e
branch_goes_on (inr b) t e = else_goes (else_told b) t e

the_parts : Parts (is classes.Else) a_branch
the_parts = record { starts = branch_starts; stop = no_class classes.Else; goes_on = branch_goes_on }

body_goes_on : (b : Stmt) → GoesOn (is classes.Else) a_branch (a_stmt.grabs b) (stmt_told b).unended
body_goes_on b t e = else_goes (stmt_told b) t e

abbrev pub some_branches : Stmt → Kind Word (List ElseIf × Option Else)
some_branches b = tail (is classes.Else) a_branch (a_stmt.grabs b) (stmt_told b).unended

abbrev pub in_if : Kind Word (ℕ × (CExpr × (Stmt × (List ElseIf × Option Else))))
in_if = pair (place never) (λ _. behind (word_of classes.If) (pair a_condition (λ _. pair a_stmt some_branches)))

abbrev pub if_made : ℕ × (CExpr × (Stmt × (List ElseIf × Option Else))) → If
if_made p = branch p.0 p.1.0 p.1.1.0 p.1.1.1.0 p.1.1.1.1

module _ {live : Type 0} {d : ℕ} (e : Parses CExpr) (s : Parses Stmt) (expr_rule : Rule live never an_expr (λ x. x) d e) (stmt_rule : Rule live never a_stmt (λ x. x) d s) where
  else_if_rule : (k : ℕ) → Rule live never else_if_parts (λ p. else_if k p.0 p.1) d (spec.else_if_by e s k)
  unfolding spec.else_if_by
  else_if_rule k =
      token_then (is classes.If) (word_of classes.If) (knows classes.If refl) refl
      (seq (λ x. x) (λ x b. else_if k x b) (λ x t. and_then (s t) (λ b t. _)) (condition_rule e expr_rule refl) (λ x. mapped (λ b. else_if k x b) stmt_rule))

  else_rule : (k : ℕ) → Rule live never a_stmt (λ b. last_else k b) d (spec.else_by e s k)
  unfolding spec.else_by
  else_rule k = mapped (λ b. last_else k b) stmt_rule

  behind_else_rule : (k : ℕ) → Rule live never (sum else_if_parts last_body) (branch_value k) d (spec.behind_else_by e s k)
  behind_else_rule k =
      choice_past (is classes.If) never else_if_parts last_body (λ n x r h. (knows classes.If refl).yes) (mapped behind_if.Other (else_if_rule k))
      (narrowed no_if not_if a_stmt (λ n x r i e. fine_by (words a_stmt x) r (stmt_starts n x [] i) e) (last_viable d) (λ n x r i. other_by (words a_stmt x) r (stmt_starts n x [] i.1) i.0) (mapped behind_if.Last (else_rule k)))

  branch_rule : Rule live never part_parts (λ p. branch_value p.0 p.1) d (spec.branch_by e s)
  unfolding spec.branch_by
  branch_rule =
      numbered branch_value (λ k t. and_then (expect (is classes.Else) t) (λ _. spec.behind_else_by e s k))
      (λ k. token_then (is classes.Else) (word_of classes.Else) (knows classes.Else refl) refl (behind_else_rule k))

  branches_rule : (b : Stmt) → Rule live (a_stmt.grabs b) (some_branches b) (λ p. p) d (spec.branches_by e s)
  branches_rule b =
      branched (is classes.Else) the_parts (a_stmt.grabs b) (stmt_told b).unended (body_goes_on b)
      (told_as a_branch branch_made (λ x. x) branch_told_as branch_goes branch_all (mapped spec.branch_sort branch_rule))

  pub if_rule : Rule live never in_if if_made d (spec.if_by e s)
  unfolding spec.if_by
  if_rule =
      numbered (λ k p. if_made (k, p)) (λ k t. and_then (expect (is classes.If) t) (λ _ t. and_then (spec.condition_by e t) (λ x t. and_then (s t) (λ b t. and_then (spec.branches_by e s t) (λ q t. _)))))
      (λ k. token_then (is classes.If) (word_of classes.If) (knows classes.If refl) refl
      (seq (λ x. x) (λ x p. if_made (k, (x, p))) (λ x t. and_then (s t) (λ b t. and_then (spec.branches_by e s t) (λ q t. _))) (condition_rule e expr_rule refl)
      (λ x. seq (λ b. b) (λ b q. branch k x b q.0 q.1) (λ b t. and_then (spec.branches_by e s t) (λ q t. _)) stmt_rule
      (λ b. mapped (λ q. branch k x b q.0 q.1) (branches_rule b)))))

-- ---- what an `if` tells, and which statements are of this form

pub if_told_as : (p : ℕ × (CExpr × (Stmt × (List ElseIf × Option Else)))) → a_stmt.told (stmts.If (if_made p)) ≡ (within in_if).told p
if_told_as p = stmt_tells (stmts.If (if_made p)) _ (stmts.outs-If (if_made p)) ∙ branch_tells p.0 p.1.0 p.1.1.0 p.1.1.1.0 p.1.1.1.1

ends_off : (prior : Option Word → Bool) (xs : List ElseIf) (t : Option Word) → is classes.Else t ≡ false → prior t ≡ false → ends prior (map (λ a. a_branch.grabs (inl a)) xs) t ≡ false
ends_off prior [] t e free = free
ends_off prior (x ∷ xs) t e free = ends_off (an_else_if.grabs x) xs t e (ap (λ b. b && (else_if_told x).unended) e)

tail_off : (prior : Option Word → Bool) (xs : List ElseIf) (l : Option Else) (t : Option Word) → is classes.Else t ≡ false → prior t ≡ false → tail_grabs (is classes.Else) a_branch prior xs l t ≡ false
tail_off prior xs None t e free = or_both _ _ e (ends_off prior xs t e free)
tail_off prior xs (Some b) t e free = ap (λ c. c && (else_told b).unended) e

-- only an `else` goes on with an `if`, where the last part is open
if_goes_by : (b : Stmt) (p : List ElseIf × Option Else) (t : Option Word) (c : Bool) → is classes.Else t ≡ c → else_grabs ((some_branches b).told p) t ≡ (some_branches b).grabs p t
if_goes_by b p t true e = else_goes ((some_branches b).told p) t e ∙ sym (tail_goes_on (is classes.Else) a_branch the_parts (a_stmt.grabs b) (stmt_told b).unended p t e)
if_goes_by b p t false e = ap (λ c. c && ((some_branches b).told p).unended) e ∙ sym (tail_off (a_stmt.grabs b) p.0 p.1 t e (ap (λ c. c && (stmt_told b).unended) e))

if_goes : (p : ℕ × (CExpr × (Stmt × (List ElseIf × Option Else)))) (t : Option Word) → a_stmt.grabs (stmts.If (if_made p)) t ≡ (within in_if).grabs p t
if_goes p t = ap (λ (a : Tells). else_grabs a t) (if_told_as p) ∙ if_goes_by p.1.1.0 p.1.1.1 t (is classes.Else t) refl

pub if_form : Form (within in_if) a_stmt (λ p. stmts.If (if_made p))
if_form = told_form (within in_if) a_stmt (λ p. stmts.If (if_made p)) if_told_as if_goes

pub if_match : (l : Layer) → layer_front l ≡ fronts.Nested nests.If → (p : ℕ × (CExpr × (Stmt × (List ElseIf × Option Else)))) × (stmts.If (if_made p) ≡ roll-Stmt l)
if_match (Stmt-F.If i) e =
    let o = out-If i in
    ((o.token, (o.condition, (o.body, (o.others, o.last)))), ap stmts.If (roll-out-If i) ∙ sym (stmts.rolls-If i))
if_match _ e = absurd (cc)
