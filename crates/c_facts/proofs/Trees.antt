-- What each part of an expression tells, by its own parts.
use Rattle.std.proofs.Common.{◌≡◌, ℕ, List, [], ◌∷◌, ◌++◌, map, flat_map, refl, sym, ap, ◌∙◌, Option, Some, None}
use Rattle.std.proofs.lemmas.List.Folds.{flat_map-map}
use Rattle.c_tree.specs.declared.leaves.Name.{Name}
use Rattle.c_tree.specs.declared.leaves.Number.{Number}
use Rattle.c_tree.specs.declared.leaves.Character.{Character}
use Rattle.c_tree.specs.declared.leaves.Text.{Text}
use Rattle.c_tree.specs.declared.expr.CExpr.{CExpr, out-CExpr, roll-out-CExpr}
use Rattle.c_tree.specs.declared.expr.Assignment.{Assignment, out-Assignment, roll-out-Assignment}
use Rattle.c_tree.specs.declared.expr.Cond.{Cond, out-Cond, roll-Cond, roll-out-Cond}
use Rattle.c_tree.specs.declared.expr.Choice.{Choice, out-Choice, roll-out-Choice}
use Rattle.c_tree.specs.declared.expr.Chain.{Chain, out-Chain, roll-out-Chain}
use Rattle.c_tree.specs.declared.expr.Term.{Term, out-Term, roll-out-Term}
use Rattle.c_tree.specs.declared.expr.Operand.{Operand, out-Operand, roll-out-Operand}
use Rattle.c_tree.specs.declared.expr.Primary.TheVariants as primaries
use Rattle.c_tree.specs.declared.expr.Primary.TheFolds.{para-roll-Primary, para-roll-Suffix, para-roll-Assignment, para-roll-CExpr, para-roll-Chain, para-roll-Choice, para-roll-Cond, para-roll-Operand, para-roll-Term}
use Rattle.c_tree.specs.declared.expr.Primary.TheOpen.{Primary-F, Suffix-F}
use Rattle.c_tree.specs.declared.expr.Suffix.{Suffix}
use Rattle.c_tree.specs.declared.expr.Suffix.TheVariants as suffixes
use Rattle.c_judge.specs.Calls.{Env}
use Rattle.c_walk.specs.Around.{Values}
use Rattle.c_facts.specs.Facts.{value_facts, called_facts}
use Rattle.c_facts.specs.Exprs.{Facts, Part, parts, whole, wholes, primary_step, suffix_step, assignment_step, expr_step, chain_step, choice_step, cond_step, operand_step, term_step, inside, assignment_facts, cond_facts, choice_facts, chain_facts, term_facts, operand_facts, primary_facts, suffix_facts, expr_facts, branch_facts}

parts_beside : {A : Type 0} (of : A → Facts) (xs : List A) → parts (map (λ (x : A). (x, of x)) xs) ≡ xs
parts_beside of [] = refl
parts_beside of (x ∷ xs) = ap (λ ys. x ∷ ys) (parts_beside of xs)

module _ (env : Env) (values : Values) where
  pub inside_is : (e : CExpr) → inside env values e ≡ cond_facts env values (out-CExpr e).first ++ flat_map (assignment_facts env values) (out-CExpr e).rest
  inside_is e =
      let o = out-CExpr e in
      ap (inside env values) (sym (roll-out-CExpr e))
      ∙ para-roll-CExpr Facts Facts Facts Facts Facts Facts Facts Facts Facts (primary_step env values) (suffix_step env values) (assignment_step env values) (expr_step env values) (chain_step env values) (choice_step env values) (cond_step env values) (operand_step env values) (term_step env values) o
      ∙ ap (λ fs. cond_facts env values o.first ++ fs) (flat_map-map (λ (p : Part Assignment). p.1) (λ x. (x, assignment_facts env values x)) o.rest)

  pub assignment_is : (a : Assignment) → assignment_facts env values a ≡ cond_facts env values (out-Assignment a).value
  assignment_is a =
      ap (assignment_facts env values) (sym (roll-out-Assignment a))
      ∙ para-roll-Assignment Facts Facts Facts Facts Facts Facts Facts Facts Facts (primary_step env values) (suffix_step env values) (assignment_step env values) (expr_step env values) (chain_step env values) (choice_step env values) (cond_step env values) (operand_step env values) (term_step env values) (out-Assignment a)

  cond_at : (k : ℕ) (c : Chain) (o : Option Choice) → cond_facts env values (roll-Cond (record { token = k; chain = c; choice = o })) ≡ chain_facts env values c ++ branch_facts env values o
  cond_at k c None = para-roll-Cond Facts Facts Facts Facts Facts Facts Facts Facts Facts (primary_step env values) (suffix_step env values) (assignment_step env values) (expr_step env values) (chain_step env values) (choice_step env values) (cond_step env values) (operand_step env values) (term_step env values) _
  cond_at k c (Some b) = para-roll-Cond Facts Facts Facts Facts Facts Facts Facts Facts Facts (primary_step env values) (suffix_step env values) (assignment_step env values) (expr_step env values) (chain_step env values) (choice_step env values) (cond_step env values) (operand_step env values) (term_step env values) _

  pub cond_is : (c : Cond) → cond_facts env values c ≡ chain_facts env values (out-Cond c).chain ++ branch_facts env values (out-Cond c).choice
  cond_is c = ap (cond_facts env values) (sym (roll-out-Cond c)) ∙ cond_at (out-Cond c).token (out-Cond c).chain (out-Cond c).choice

  pub choice_is : (b : Choice) → choice_facts env values b ≡ expr_facts env values (out-Choice b).yes ++ cond_facts env values (out-Choice b).no
  choice_is b =
      ap (choice_facts env values) (sym (roll-out-Choice b))
      ∙ para-roll-Choice Facts Facts Facts Facts Facts Facts Facts Facts Facts (primary_step env values) (suffix_step env values) (assignment_step env values) (expr_step env values) (chain_step env values) (choice_step env values) (cond_step env values) (operand_step env values) (term_step env values) (out-Choice b)

  pub chain_is : (c : Chain) → chain_facts env values c ≡ operand_facts env values (out-Chain c).first ++ flat_map (term_facts env values) (out-Chain c).rest
  chain_is c =
      let o = out-Chain c in
      ap (chain_facts env values) (sym (roll-out-Chain c))
      ∙ para-roll-Chain Facts Facts Facts Facts Facts Facts Facts Facts Facts (primary_step env values) (suffix_step env values) (assignment_step env values) (expr_step env values) (chain_step env values) (choice_step env values) (cond_step env values) (operand_step env values) (term_step env values) o
      ∙ ap (λ fs. operand_facts env values o.first ++ fs) (flat_map-map (λ (p : Part Term). p.1) (λ x. (x, term_facts env values x)) o.rest)

  pub term_is : (t : Term) → term_facts env values t ≡ operand_facts env values (out-Term t).operand
  term_is t =
      ap (term_facts env values) (sym (roll-out-Term t))
      ∙ para-roll-Term Facts Facts Facts Facts Facts Facts Facts Facts Facts (primary_step env values) (suffix_step env values) (assignment_step env values) (expr_step env values) (chain_step env values) (choice_step env values) (cond_step env values) (operand_step env values) (term_step env values) (out-Term t)

  pub operand_is : (x : Operand) → operand_facts env values x ≡ primary_facts env values (out-Operand x).primary ++ flat_map (suffix_facts env values) (out-Operand x).suffixes
  operand_is x =
      let o = out-Operand x in
      ap (operand_facts env values) (sym (roll-out-Operand x))
      ∙ para-roll-Operand Facts Facts Facts Facts Facts Facts Facts Facts Facts (primary_step env values) (suffix_step env values) (assignment_step env values) (expr_step env values) (chain_step env values) (choice_step env values) (cond_step env values) (operand_step env values) (term_step env values) o
      ∙ ap (λ fs. primary_facts env values o.primary ++ fs) (flat_map-map (λ (p : Part Suffix). p.1) (λ x. (x, suffix_facts env values x)) o.suffixes)

  pub name_is : (n : Name) → primary_facts env values (primaries.Name n) ≡ value_facts env values n
  name_is n =
      ap (primary_facts env values) (sym (primaries.rolls-Name n))
      ∙ para-roll-Primary Facts Facts Facts Facts Facts Facts Facts Facts Facts (primary_step env values) (suffix_step env values) (assignment_step env values) (expr_step env values) (chain_step env values) (choice_step env values) (cond_step env values) (operand_step env values) (term_step env values) (Primary-F.Name n)

  pub number_is : (n : Number) → primary_facts env values (primaries.Number n) ≡ []
  number_is n =
      ap (primary_facts env values) (sym (primaries.rolls-Number n))
      ∙ para-roll-Primary Facts Facts Facts Facts Facts Facts Facts Facts Facts (primary_step env values) (suffix_step env values) (assignment_step env values) (expr_step env values) (chain_step env values) (choice_step env values) (cond_step env values) (operand_step env values) (term_step env values) (Primary-F.Number n)

  pub character_is : (c : Character) → primary_facts env values (primaries.Character c) ≡ []
  character_is c =
      ap (primary_facts env values) (sym (primaries.rolls-Character c))
      ∙ para-roll-Primary Facts Facts Facts Facts Facts Facts Facts Facts Facts (primary_step env values) (suffix_step env values) (assignment_step env values) (expr_step env values) (chain_step env values) (choice_step env values) (cond_step env values) (operand_step env values) (term_step env values) (Primary-F.Character c)

  pub text_is : (x : Text) → primary_facts env values (primaries.Text x) ≡ []
  text_is x =
      ap (primary_facts env values) (sym (primaries.rolls-Text x))
      ∙ para-roll-Primary Facts Facts Facts Facts Facts Facts Facts Facts Facts (primary_step env values) (suffix_step env values) (assignment_step env values) (expr_step env values) (chain_step env values) (choice_step env values) (cond_step env values) (operand_step env values) (term_step env values) (Primary-F.Text x)

  pub null_is : (k : ℕ) → primary_facts env values (primaries.Null k) ≡ []
  null_is k =
      ap (primary_facts env values) (sym (primaries.rolls-Null k))
      ∙ para-roll-Primary Facts Facts Facts Facts Facts Facts Facts Facts Facts (primary_step env values) (suffix_step env values) (assignment_step env values) (expr_step env values) (chain_step env values) (choice_step env values) (cond_step env values) (operand_step env values) (term_step env values) (Primary-F.Null k)

  pub group_is : (k : ℕ) (e : CExpr) → primary_facts env values (primaries.Group k e) ≡ expr_facts env values e
  group_is k e =
      ap (primary_facts env values) (sym (primaries.rolls-Group k e))
      ∙ para-roll-Primary Facts Facts Facts Facts Facts Facts Facts Facts Facts (primary_step env values) (suffix_step env values) (assignment_step env values) (expr_step env values) (chain_step env values) (choice_step env values) (cond_step env values) (operand_step env values) (term_step env values) (Primary-F.Group k e)

  pub call_is : (n : Name) (k : ℕ) (es : List CExpr) → primary_facts env values (primaries.Call n k es) ≡ called_facts env values n es ++ flat_map (expr_facts env values) es
  call_is n k es =
      ap (primary_facts env values) (sym (primaries.rolls-Call n k es))
      ∙ para-roll-Primary Facts Facts Facts Facts Facts Facts Facts Facts Facts (primary_step env values) (suffix_step env values) (assignment_step env values) (expr_step env values) (chain_step env values) (choice_step env values) (cond_step env values) (operand_step env values) (term_step env values) (Primary-F.Call n k es)
      ∙ ap (λ ys. called_facts env values n ys ++ wholes env values (map (λ (e : CExpr). (e, inside env values e)) es)) (parts_beside (inside env values) es)
      ∙ ap (λ fs. called_facts env values n es ++ fs) (flat_map-map (whole env values) (λ e. (e, inside env values e)) es)

  pub index_is : (k : ℕ) (e : CExpr) → suffix_facts env values (suffixes.Index k e) ≡ expr_facts env values e
  index_is k e =
      ap (suffix_facts env values) (sym (suffixes.rolls-Index k e))
      ∙ para-roll-Suffix Facts Facts Facts Facts Facts Facts Facts Facts Facts (primary_step env values) (suffix_step env values) (assignment_step env values) (expr_step env values) (chain_step env values) (choice_step env values) (cond_step env values) (operand_step env values) (term_step env values) (Suffix-F.Index k e)

  pub member_is : (k : ℕ) (n : Name) → suffix_facts env values (suffixes.Member k n) ≡ []
  member_is k n =
      ap (suffix_facts env values) (sym (suffixes.rolls-Member k n))
      ∙ para-roll-Suffix Facts Facts Facts Facts Facts Facts Facts Facts Facts (primary_step env values) (suffix_step env values) (assignment_step env values) (expr_step env values) (chain_step env values) (choice_step env values) (cond_step env values) (operand_step env values) (term_step env values) (Suffix-F.Member k n)

  pub arrow_is : (k : ℕ) (n : Name) → suffix_facts env values (suffixes.Arrow k n) ≡ []
  arrow_is k n =
      ap (suffix_facts env values) (sym (suffixes.rolls-Arrow k n))
      ∙ para-roll-Suffix Facts Facts Facts Facts Facts Facts Facts Facts Facts (primary_step env values) (suffix_step env values) (assignment_step env values) (expr_step env values) (chain_step env values) (choice_step env values) (cond_step env values) (operand_step env values) (term_step env values) (Suffix-F.Arrow k n)

  pub increment_is : (k : ℕ) → suffix_facts env values (suffixes.Increment k) ≡ []
  increment_is k =
      ap (suffix_facts env values) (sym (suffixes.rolls-Increment k))
      ∙ para-roll-Suffix Facts Facts Facts Facts Facts Facts Facts Facts Facts (primary_step env values) (suffix_step env values) (assignment_step env values) (expr_step env values) (chain_step env values) (choice_step env values) (cond_step env values) (operand_step env values) (term_step env values) (Suffix-F.Increment k)

  pub decrement_is : (k : ℕ) → suffix_facts env values (suffixes.Decrement k) ≡ []
  decrement_is k =
      ap (suffix_facts env values) (sym (suffixes.rolls-Decrement k))
      ∙ para-roll-Suffix Facts Facts Facts Facts Facts Facts Facts Facts Facts (primary_step env values) (suffix_step env values) (assignment_step env values) (expr_step env values) (chain_step env values) (choice_step env values) (cond_step env values) (operand_step env values) (term_step env values) (Suffix-F.Decrement k)
