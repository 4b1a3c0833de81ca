-- What each part of an expression tells, by its own parts.
use Rattle.std.proofs.Common.{◌≡◌, ℕ, List, [], ◌++◌, flat_map, sym, ap, ◌∙◌, Option, Some, None, ◌⊎◌, inl, inr}
use Rattle.std.proofs.lemmas.List.Folds.{flat_map-map}
use Rattle.sv_tree.specs.declared.leaves.Number.{Number}
use Rattle.sv_tree.specs.declared.leaves.Text.{Text}
use Rattle.sv_tree.specs.declared.leaves.Bound.{Bound}
use Rattle.sv_tree.specs.declared.expr.Expr.{Expr, out-Expr, roll-Expr, roll-out-Expr}
use Rattle.sv_tree.specs.declared.expr.Choice.{Choice, out-Choice, roll-out-Choice}
use Rattle.sv_tree.specs.declared.expr.Chain.{Chain, out-Chain, roll-out-Chain}
use Rattle.sv_tree.specs.declared.expr.Term.{Term, out-Term, roll-out-Term}
use Rattle.sv_tree.specs.declared.expr.Operand.{Operand, out-Operand, roll-out-Operand}
use Rattle.sv_tree.specs.declared.expr.Primary.{Primary}
use Rattle.sv_tree.specs.declared.expr.Primary.TheVariants as primaries
use Rattle.sv_tree.specs.declared.expr.Primary.TheFolds.{para-roll-Primary, para-roll-Select, para-roll-Call, para-roll-Chain, para-roll-Choice, para-roll-Expr, para-roll-Lvalue, para-roll-Operand, para-roll-Term}
use Rattle.sv_tree.specs.declared.expr.Primary.TheOpen.{Primary-F, Select-F}
use Rattle.sv_tree.specs.declared.expr.Lvalue.{Lvalue, out-Lvalue, roll-out-Lvalue}
use Rattle.sv_tree.specs.declared.expr.Select.{Select}
use Rattle.sv_tree.specs.declared.expr.Select.TheVariants as selects
use Rattle.sv_tree.specs.declared.expr.Call.{Call, out-Call, roll-out-Call}
use Rattle.sv_judge.specs.Calls.{Env}
use Rattle.sv_facts.specs.Facts.{value_facts, called_facts}
use Rattle.sv_facts.specs.Exprs.{Facts, Part, whole, primary_step, select_step, call_step, chain_step, choice_step, expr_step, lvalue_step, operand_step, term_step, inside, choice_facts, chain_facts, term_facts, operand_facts, primary_facts, select_facts, lvalue_facts, call_facts, expr_facts, branch_facts}

module _ (env : Env) where
  inside_at : (k : ℕ) (c : Chain) (o : Option Choice) → inside env (roll-Expr (record { token = k; chain = c; choice = o })) ≡ chain_facts env c ++ branch_facts env o
  inside_at k c None = para-roll-Expr Facts Facts Facts Facts Facts Facts Facts Facts Facts (primary_step env) (select_step env) (call_step env) (chain_step env) (choice_step env) (expr_step env) (lvalue_step env) (operand_step env) (term_step env) _
  inside_at k c (Some b) = para-roll-Expr Facts Facts Facts Facts Facts Facts Facts Facts Facts (primary_step env) (select_step env) (call_step env) (chain_step env) (choice_step env) (expr_step env) (lvalue_step env) (operand_step env) (term_step env) _

  pub inside_is : (e : Expr) → inside env e ≡ chain_facts env (out-Expr e).chain ++ branch_facts env (out-Expr e).choice
  inside_is e = ap (inside env) (sym (roll-out-Expr e)) ∙ inside_at (out-Expr e).token (out-Expr e).chain (out-Expr e).choice

  pub choice_is : (b : Choice) → choice_facts env b ≡ expr_facts env (out-Choice b).yes ++ expr_facts env (out-Choice b).no
  choice_is b =
      ap (choice_facts env) (sym (roll-out-Choice b))
      ∙ para-roll-Choice Facts Facts Facts Facts Facts Facts Facts Facts Facts (primary_step env) (select_step env) (call_step env) (chain_step env) (choice_step env) (expr_step env) (lvalue_step env) (operand_step env) (term_step env) (out-Choice b)

  pub chain_is : (c : Chain) → chain_facts env c ≡ operand_facts env (out-Chain c).first ++ flat_map (term_facts env) (out-Chain c).rest
  chain_is c =
      let o = out-Chain c in
      ap (chain_facts env) (sym (roll-out-Chain c))
      ∙ para-roll-Chain Facts Facts Facts Facts Facts Facts Facts Facts Facts (primary_step env) (select_step env) (call_step env) (chain_step env) (choice_step env) (expr_step env) (lvalue_step env) (operand_step env) (term_step env) o
      ∙ ap (λ fs. operand_facts env o.first ++ fs) (flat_map-map (λ (p : Part Term). p.1) (λ t. (t, term_facts env t)) o.rest)

  pub term_is : (t : Term) → term_facts env t ≡ operand_facts env (out-Term t).operand
  term_is t =
      ap (term_facts env) (sym (roll-out-Term t))
      ∙ para-roll-Term Facts Facts Facts Facts Facts Facts Facts Facts Facts (primary_step env) (select_step env) (call_step env) (chain_step env) (choice_step env) (expr_step env) (lvalue_step env) (operand_step env) (term_step env) (out-Term t)

  pub operand_is : (o : Operand) → operand_facts env o ≡ primary_facts env (out-Operand o).primary
  operand_is o =
      ap (operand_facts env) (sym (roll-out-Operand o))
      ∙ para-roll-Operand Facts Facts Facts Facts Facts Facts Facts Facts Facts (primary_step env) (select_step env) (call_step env) (chain_step env) (choice_step env) (expr_step env) (lvalue_step env) (operand_step env) (term_step env) (out-Operand o)

  pub lvalue_is : (l : Lvalue) → lvalue_facts env l ≡ value_facts env (out-Lvalue l).name ++ flat_map (select_facts env) (out-Lvalue l).selects
  lvalue_is l =
      let o = out-Lvalue l in
      ap (lvalue_facts env) (sym (roll-out-Lvalue l))
      ∙ para-roll-Lvalue Facts Facts Facts Facts Facts Facts Facts Facts Facts (primary_step env) (select_step env) (call_step env) (chain_step env) (choice_step env) (expr_step env) (lvalue_step env) (operand_step env) (term_step env) o
      ∙ ap (λ fs. value_facts env o.name ++ fs) (flat_map-map (λ (p : Part Select). p.1) (λ s. (s, select_facts env s)) o.selects)

  pub call_is : (c : Call) → call_facts env c ≡ called_facts env (out-Call c).name ++ flat_map (expr_facts env) (out-Call c).actuals
  call_is c =
      let o = out-Call c in
      ap (call_facts env) (sym (roll-out-Call c))
      ∙ para-roll-Call Facts Facts Facts Facts Facts Facts Facts Facts Facts (primary_step env) (select_step env) (call_step env) (chain_step env) (choice_step env) (expr_step env) (lvalue_step env) (operand_step env) (term_step env) o
      ∙ ap (λ fs. called_facts env o.name ++ fs) (flat_map-map (whole env) (λ e. (e, inside env e)) o.actuals)

  pub number_is : (n : Number) → primary_facts env (primaries.Number n) ≡ []
  number_is n =
      ap (primary_facts env) (sym (primaries.rolls-Number n))
      ∙ para-roll-Primary Facts Facts Facts Facts Facts Facts Facts Facts Facts (primary_step env) (select_step env) (call_step env) (chain_step env) (choice_step env) (expr_step env) (lvalue_step env) (operand_step env) (term_step env) (Primary-F.Number n)

  pub text_is : (x : Text) → primary_facts env (primaries.Text x) ≡ []
  text_is x =
      ap (primary_facts env) (sym (primaries.rolls-Text x))
      ∙ para-roll-Primary Facts Facts Facts Facts Facts Facts Facts Facts Facts (primary_step env) (select_step env) (call_step env) (chain_step env) (choice_step env) (expr_step env) (lvalue_step env) (operand_step env) (term_step env) (Primary-F.Text x)

  pub null_is : (k : ℕ) → primary_facts env (primaries.Null k) ≡ []
  null_is k =
      ap (primary_facts env) (sym (primaries.rolls-Null k))
      ∙ para-roll-Primary Facts Facts Facts Facts Facts Facts Facts Facts Facts (primary_step env) (select_step env) (call_step env) (chain_step env) (choice_step env) (expr_step env) (lvalue_step env) (operand_step env) (term_step env) (Primary-F.Null k)

  pub place_is : (l : Lvalue) → primary_facts env (primaries.Place l) ≡ lvalue_facts env l
  place_is l =
      ap (primary_facts env) (sym (primaries.rolls-Place l))
      ∙ para-roll-Primary Facts Facts Facts Facts Facts Facts Facts Facts Facts (primary_step env) (select_step env) (call_step env) (chain_step env) (choice_step env) (expr_step env) (lvalue_step env) (operand_step env) (term_step env) (Primary-F.Place l)

  pub called_is : (c : Call) → primary_facts env (primaries.Call c) ≡ call_facts env c
  called_is c =
      ap (primary_facts env) (sym (primaries.rolls-Call c))
      ∙ para-roll-Primary Facts Facts Facts Facts Facts Facts Facts Facts Facts (primary_step env) (select_step env) (call_step env) (chain_step env) (choice_step env) (expr_step env) (lvalue_step env) (operand_step env) (term_step env) (Primary-F.Call c)

  group_is : (k : ℕ) (e : Expr) → primary_facts env (primaries.Group k e) ≡ expr_facts env e
  group_is k e =
      ap (primary_facts env) (sym (primaries.rolls-Group k e))
      ∙ para-roll-Primary Facts Facts Facts Facts Facts Facts Facts Facts Facts (primary_step env) (select_step env) (call_step env) (chain_step env) (choice_step env) (expr_step env) (lvalue_step env) (operand_step env) (term_step env) (Primary-F.Group k e)

  signed_is : (k : ℕ) (e : Expr) → primary_facts env (primaries.Signed k e) ≡ expr_facts env e
  signed_is k e =
      ap (primary_facts env) (sym (primaries.rolls-Signed k e))
      ∙ para-roll-Primary Facts Facts Facts Facts Facts Facts Facts Facts Facts (primary_step env) (select_step env) (call_step env) (chain_step env) (choice_step env) (expr_step env) (lvalue_step env) (operand_step env) (term_step env) (Primary-F.Signed k e)

  unsigned_is : (k : ℕ) (e : Expr) → primary_facts env (primaries.Unsigned k e) ≡ expr_facts env e
  unsigned_is k e =
      ap (primary_facts env) (sym (primaries.rolls-Unsigned k e))
      ∙ para-roll-Primary Facts Facts Facts Facts Facts Facts Facts Facts Facts (primary_step env) (select_step env) (call_step env) (chain_step env) (choice_step env) (expr_step env) (lvalue_step env) (operand_step env) (term_step env) (Primary-F.Unsigned k e)

  concatenation_is : (k : ℕ) (es : List Expr) → primary_facts env (primaries.Concatenation k es) ≡ flat_map (expr_facts env) es
  concatenation_is k es =
      ap (primary_facts env) (sym (primaries.rolls-Concatenation k es))
      ∙ para-roll-Primary Facts Facts Facts Facts Facts Facts Facts Facts Facts (primary_step env) (select_step env) (call_step env) (chain_step env) (choice_step env) (expr_step env) (lvalue_step env) (operand_step env) (term_step env) (Primary-F.Concatenation k es)
      ∙ flat_map-map (whole env) (λ e. (e, inside env e)) es

  repetition_is : (k : ℕ) (n : Number) (es : List Expr) → primary_facts env (primaries.Repetition k n es) ≡ flat_map (expr_facts env) es
  repetition_is k n es =
      ap (primary_facts env) (sym (primaries.rolls-Repetition k n es))
      ∙ para-roll-Primary Facts Facts Facts Facts Facts Facts Facts Facts Facts (primary_step env) (select_step env) (call_step env) (chain_step env) (choice_step env) (expr_step env) (lvalue_step env) (operand_step env) (term_step env) (Primary-F.Repetition k n es)
      ∙ flat_map-map (whole env) (λ e. (e, inside env e)) es

  index_is : (k : ℕ) (e : Expr) → select_facts env (selects.Index k e) ≡ expr_facts env e
  index_is k e =
      ap (select_facts env) (sym (selects.rolls-Index k e))
      ∙ para-roll-Select Facts Facts Facts Facts Facts Facts Facts Facts Facts (primary_step env) (select_step env) (call_step env) (chain_step env) (choice_step env) (expr_step env) (lvalue_step env) (operand_step env) (term_step env) (Select-F.Index k e)

  pub range_is : (k : ℕ) (a b : Bound) → select_facts env (selects.Range k a b) ≡ []
  range_is k a b =
      ap (select_facts env) (sym (selects.rolls-Range k a b))
      ∙ para-roll-Select Facts Facts Facts Facts Facts Facts Facts Facts Facts (primary_step env) (select_step env) (call_step env) (chain_step env) (choice_step env) (expr_step env) (lvalue_step env) (operand_step env) (term_step env) (Select-F.Range k a b)

  up_is : (k : ℕ) (e : Expr) (n : Number) → select_facts env (selects.Up k e n) ≡ expr_facts env e
  up_is k e n =
      ap (select_facts env) (sym (selects.rolls-Up k e n))
      ∙ para-roll-Select Facts Facts Facts Facts Facts Facts Facts Facts Facts (primary_step env) (select_step env) (call_step env) (chain_step env) (choice_step env) (expr_step env) (lvalue_step env) (operand_step env) (term_step env) (Select-F.Up k e n)

  down_is : (k : ℕ) (e : Expr) (n : Number) → select_facts env (selects.Down k e n) ≡ expr_facts env e
  down_is k e n =
      ap (select_facts env) (sym (selects.rolls-Down k e n))
      ∙ para-roll-Select Facts Facts Facts Facts Facts Facts Facts Facts Facts (primary_step env) (select_step env) (call_step env) (chain_step env) (choice_step env) (expr_step env) (lvalue_step env) (operand_step env) (term_step env) (Select-F.Down k e n)

  -- parentheses and casts around an expression
  pub one_is : (p : Primary) (e : Expr) → ((k : ℕ) × p ≡ primaries.Group k e) ⊎ (((k : ℕ) × p ≡ primaries.Signed k e) ⊎ ((k : ℕ) × p ≡ primaries.Unsigned k e)) → primary_facts env p ≡ expr_facts env e
  one_is p e (inl h) = ap (primary_facts env) h.1 ∙ group_is h.0 e
  one_is p e (inr (inl h)) = ap (primary_facts env) h.1 ∙ signed_is h.0 e
  one_is p e (inr (inr h)) = ap (primary_facts env) h.1 ∙ unsigned_is h.0 e

  -- braces around expressions
  pub list_is : (p : Primary) (es : List Expr) → ((k : ℕ) × p ≡ primaries.Concatenation k es) ⊎ ((k : ℕ) × (n : Number) × p ≡ primaries.Repetition k n es) → primary_facts env p ≡ flat_map (expr_facts env) es
  list_is p es (inl h) = ap (primary_facts env) h.1 ∙ concatenation_is h.0 es
  list_is p es (inr h) = ap (primary_facts env) h.2 ∙ repetition_is h.0 h.1 es

  -- selects around an expression
  pub inner_is : (x : Select) (e : Expr) → ((k : ℕ) × x ≡ selects.Index k e) ⊎ (((k : ℕ) × (n : Number) × x ≡ selects.Up k e n) ⊎ ((k : ℕ) × (n : Number) × x ≡ selects.Down k e n)) → select_facts env x ≡ expr_facts env e
  inner_is x e (inl h) = ap (select_facts env) h.1 ∙ index_is h.0 e
  inner_is x e (inr (inl h)) = ap (select_facts env) h.2 ∙ up_is h.0 e h.1
  inner_is x e (inr (inr h)) = ap (select_facts env) h.2 ∙ down_is h.0 e h.1
