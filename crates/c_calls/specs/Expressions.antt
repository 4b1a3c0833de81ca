-- Refused calls in expressions.
use Rattle.std.specs.Prelude.{ℕ, Option, Some, None, List, [], ◌∷◌, ◌++◌, map}
use Rattle.dpi_rules.specs.declared.violation.Violation.{Violation}
use Rattle.dpi_rules.specs.Order.{violation}
use Rattle.c_tree.specs.declared.leaves.Name.{Name}
use Rattle.c_tree.specs.declared.expr.CExpr.{CExpr, fold-CExpr}
use Rattle.c_tree.specs.declared.expr.Assignment.{Assignment, fold-Assignment}
use Rattle.c_tree.specs.declared.expr.Cond.{Cond, fold-Cond}
use Rattle.c_tree.specs.declared.expr.Choice.{Choice, fold-Choice}
use Rattle.c_tree.specs.declared.expr.Chain.{Chain, fold-Chain}
use Rattle.c_tree.specs.declared.expr.Term.{Term, fold-Term}
use Rattle.c_tree.specs.declared.expr.Operand.{Operand, fold-Operand}
use Rattle.c_tree.specs.declared.expr.Primary.{Primary, fold-Primary}
use Rattle.c_tree.specs.declared.expr.Suffix.{Suffix, fold-Suffix}
use Rattle.c_tree.specs.declared.expr.Primary.TheOpen.{Primary-F, Suffix-F, Assignment-F, CExpr-F, Chain-F, Choice-F, Cond-F, Operand-F, Term-F}
use Rattle.c_calls.specs.Refusals.{Rules}

-- what a part breaks
abbrev pub Broken : Type 0
Broken = List Violation

-- what all of them break
abbrev pub all_of : List Broken → Broken
all_of [] = []
all_of (vs ∷ more) = vs ++ all_of more

-- what it breaks where it is there
abbrev pub where_there : Option Broken → Broken
where_there None = []
where_there (Some vs) = vs

-- the rule at a called name, where its calls break one
abbrev pub called : ℕ → ℕ → Option ℕ → Broken
called file token None = []
called file token (Some rule) = violation file token rule ∷ []

module _ (file : ℕ) (rules : Rules) where
  -- ---- parts of expressions, with what each part of theirs breaks

  abbrev pub primary_step : Primary-F Broken Broken Broken Broken Broken Broken Broken Broken Broken → Broken
  primary_step (Primary-F.Name n) = []
  primary_step (Primary-F.Number n) = []
  primary_step (Primary-F.Character c) = []
  primary_step (Primary-F.Text t) = []
  primary_step (Primary-F.Null k) = []
  primary_step (Primary-F.Call n k es) = called file n.token (rules n.bytes) ++ all_of es
  primary_step (Primary-F.Group k e) = e

  abbrev pub suffix_step : Suffix-F Broken Broken Broken Broken Broken Broken Broken Broken Broken → Broken
  suffix_step (Suffix-F.Index k e) = e
  suffix_step (Suffix-F.Member k n) = []
  suffix_step (Suffix-F.Arrow k n) = []
  suffix_step (Suffix-F.Increment k) = []
  suffix_step (Suffix-F.Decrement k) = []

  abbrev pub assignment_step : Assignment-F Broken Broken Broken Broken Broken Broken Broken Broken Broken → Broken
  assignment_step a = a.value

  abbrev pub expr_step : CExpr-F Broken Broken Broken Broken Broken Broken Broken Broken Broken → Broken
  expr_step e = e.first ++ all_of e.rest

  abbrev pub chain_step : Chain-F Broken Broken Broken Broken Broken Broken Broken Broken Broken → Broken
  chain_step c = c.first ++ all_of c.rest

  abbrev pub choice_step : Choice-F Broken Broken Broken Broken Broken Broken Broken Broken Broken → Broken
  choice_step c = c.yes ++ c.no

  abbrev pub cond_step : Cond-F Broken Broken Broken Broken Broken Broken Broken Broken Broken → Broken
  cond_step c = c.chain ++ where_there c.choice

  abbrev pub operand_step : Operand-F Broken Broken Broken Broken Broken Broken Broken Broken Broken → Broken
  operand_step o = o.primary ++ all_of o.suffixes

  abbrev pub term_step : Term-F Broken Broken Broken Broken Broken Broken Broken Broken Broken → Broken
  term_step t = t.operand

  -- ---- the refused calls in each kind of part

  abbrev pub in_expr : CExpr → Broken
  in_expr = fold-CExpr Broken Broken Broken Broken Broken Broken Broken Broken Broken primary_step suffix_step assignment_step expr_step chain_step choice_step cond_step operand_step term_step

  abbrev pub in_assignment : Assignment → Broken
  in_assignment = fold-Assignment Broken Broken Broken Broken Broken Broken Broken Broken Broken primary_step suffix_step assignment_step expr_step chain_step choice_step cond_step operand_step term_step

  abbrev pub in_cond : Cond → Broken
  in_cond = fold-Cond Broken Broken Broken Broken Broken Broken Broken Broken Broken primary_step suffix_step assignment_step expr_step chain_step choice_step cond_step operand_step term_step

  abbrev pub in_choice : Choice → Broken
  in_choice = fold-Choice Broken Broken Broken Broken Broken Broken Broken Broken Broken primary_step suffix_step assignment_step expr_step chain_step choice_step cond_step operand_step term_step

  abbrev pub in_chain : Chain → Broken
  in_chain = fold-Chain Broken Broken Broken Broken Broken Broken Broken Broken Broken primary_step suffix_step assignment_step expr_step chain_step choice_step cond_step operand_step term_step

  abbrev pub in_term : Term → Broken
  in_term = fold-Term Broken Broken Broken Broken Broken Broken Broken Broken Broken primary_step suffix_step assignment_step expr_step chain_step choice_step cond_step operand_step term_step

  abbrev pub in_operand : Operand → Broken
  in_operand = fold-Operand Broken Broken Broken Broken Broken Broken Broken Broken Broken primary_step suffix_step assignment_step expr_step chain_step choice_step cond_step operand_step term_step

  abbrev pub in_primary : Primary → Broken
  in_primary = fold-Primary Broken Broken Broken Broken Broken Broken Broken Broken Broken primary_step suffix_step assignment_step expr_step chain_step choice_step cond_step operand_step term_step

  abbrev pub in_suffix : Suffix → Broken
  in_suffix = fold-Suffix Broken Broken Broken Broken Broken Broken Broken Broken Broken primary_step suffix_step assignment_step expr_step chain_step choice_step cond_step operand_step term_step

  -- a call of the name
  abbrev pub call_violations : Name → List CExpr → Broken
  call_violations n es = called file n.token (rules n.bytes) ++ all_of (map in_expr es)

  -- an expression that may be missing
  abbrev pub in_optional : Option CExpr → Broken
  in_optional None = []
  in_optional (Some e) = in_expr e
