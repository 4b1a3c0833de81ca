-- Calls in the initialisers of a module's variables.
use Rattle.std.specs.Prelude.{ℕ, Option, Some, None, List, [], ◌∷◌, ◌++◌}
use Rattle.dpi_rules.specs.declared.violation.Violation.{Violation}
use Rattle.dpi_rules.specs.Order.{violation}
use Rattle.sv_tree.specs.declared.expr.Expr.{Expr, fold-Expr}
use Rattle.sv_tree.specs.declared.expr.Choice.{Choice, fold-Choice}
use Rattle.sv_tree.specs.declared.expr.Chain.{Chain, fold-Chain}
use Rattle.sv_tree.specs.declared.expr.Term.{Term, fold-Term}
use Rattle.sv_tree.specs.declared.expr.Operand.{Operand, fold-Operand}
use Rattle.sv_tree.specs.declared.expr.Primary.{Primary, fold-Primary}
use Rattle.sv_tree.specs.declared.expr.Lvalue.{Lvalue, fold-Lvalue}
use Rattle.sv_tree.specs.declared.expr.Select.{Select, fold-Select}
use Rattle.sv_tree.specs.declared.expr.Call.{Call, fold-Call}
use Rattle.sv_tree.specs.declared.expr.Primary.TheOpen.{Primary-F, Select-F, Call-F, Chain-F, Choice-F, Expr-F, Lvalue-F, Operand-F, Term-F}
use Rattle.sv_tree.specs.declared.statements.Init.{Init, fold-Init}
use Rattle.sv_tree.specs.declared.statements.Init.TheOpen.{Init-F}

-- what a part breaks
abbrev pub Broken : Type 0
Broken = List Violation

-- what all of them break
abbrev pub all_of : List Broken → Broken
all_of [] = []
all_of (vs ∷ more) = vs ++ all_of more

-- what it breaks where it is there
abbrev pub where_there : Option Broken → Broken
where_there None = []
where_there (Some vs) = vs

module _ (file : ℕ) where
  -- ---- parts of expressions, with what breaks the rule in each part of theirs

  abbrev pub primary_step : Primary-F Broken Broken Broken Broken Broken Broken Broken Broken Broken → Broken
  primary_step (Primary-F.Number n) = []
  primary_step (Primary-F.Text t) = []
  primary_step (Primary-F.Null k) = []
  primary_step (Primary-F.Place l) = l
  primary_step (Primary-F.Call c) = c
  primary_step (Primary-F.Group k e) = e
  primary_step (Primary-F.Concatenation k es) = all_of es
  primary_step (Primary-F.Repetition k n es) = all_of es
  primary_step (Primary-F.Signed k e) = e
  primary_step (Primary-F.Unsigned k e) = e

  abbrev pub select_step : Select-F Broken Broken Broken Broken Broken Broken Broken Broken Broken → Broken
  select_step (Select-F.Index k e) = e
  select_step (Select-F.Range k a b) = []
  select_step (Select-F.Up k e n) = e
  select_step (Select-F.Down k e n) = e

  -- a call breaks the rule at its name
  abbrev pub call_step : Call-F Broken Broken Broken Broken Broken Broken Broken Broken Broken → Broken
  call_step c = violation file c.name.token 29 ∷ all_of c.actuals

  abbrev pub chain_step : Chain-F Broken Broken Broken Broken Broken Broken Broken Broken Broken → Broken
  chain_step c = c.first ++ all_of c.rest

  abbrev pub choice_step : Choice-F Broken Broken Broken Broken Broken Broken Broken Broken Broken → Broken
  choice_step c = c.yes ++ c.no

  abbrev pub expr_step : Expr-F Broken Broken Broken Broken Broken Broken Broken Broken Broken → Broken
  expr_step e = e.chain ++ where_there e.choice

  abbrev pub lvalue_step : Lvalue-F Broken Broken Broken Broken Broken Broken Broken Broken Broken → Broken
  lvalue_step l = all_of l.selects

  abbrev pub operand_step : Operand-F Broken Broken Broken Broken Broken Broken Broken Broken Broken → Broken
  operand_step o = o.primary

  abbrev pub term_step : Term-F Broken Broken Broken Broken Broken Broken Broken Broken Broken → Broken
  term_step t = t.operand

  -- ---- the calls in each kind of part

  abbrev pub in_expr : Expr → Broken
  in_expr = fold-Expr Broken Broken Broken Broken Broken Broken Broken Broken Broken primary_step select_step call_step chain_step choice_step expr_step lvalue_step operand_step term_step

  abbrev pub in_choice : Choice → Broken
  in_choice = fold-Choice Broken Broken Broken Broken Broken Broken Broken Broken Broken primary_step select_step call_step chain_step choice_step expr_step lvalue_step operand_step term_step

  abbrev pub in_chain : Chain → Broken
  in_chain = fold-Chain Broken Broken Broken Broken Broken Broken Broken Broken Broken primary_step select_step call_step chain_step choice_step expr_step lvalue_step operand_step term_step

  abbrev pub in_term : Term → Broken
  in_term = fold-Term Broken Broken Broken Broken Broken Broken Broken Broken Broken primary_step select_step call_step chain_step choice_step expr_step lvalue_step operand_step term_step

  abbrev pub in_operand : Operand → Broken
  in_operand = fold-Operand Broken Broken Broken Broken Broken Broken Broken Broken Broken primary_step select_step call_step chain_step choice_step expr_step lvalue_step operand_step term_step

  abbrev pub in_primary : Primary → Broken
  in_primary = fold-Primary Broken Broken Broken Broken Broken Broken Broken Broken Broken primary_step select_step call_step chain_step choice_step expr_step lvalue_step operand_step term_step

  abbrev pub in_lvalue : Lvalue → Broken
  in_lvalue = fold-Lvalue Broken Broken Broken Broken Broken Broken Broken Broken Broken primary_step select_step call_step chain_step choice_step expr_step lvalue_step operand_step term_step

  abbrev pub in_select : Select → Broken
  in_select = fold-Select Broken Broken Broken Broken Broken Broken Broken Broken Broken primary_step select_step call_step chain_step choice_step expr_step lvalue_step operand_step term_step

  abbrev pub in_call : Call → Broken
  in_call = fold-Call Broken Broken Broken Broken Broken Broken Broken Broken Broken primary_step select_step call_step chain_step choice_step expr_step lvalue_step operand_step term_step

  -- an initialiser: an expression or a pattern of initialisers
  abbrev pub init_step : Init-F Broken → Broken
  init_step (Init-F.Value e) = in_expr e
  init_step (Init-F.Pattern k is) = all_of is

  abbrev pub in_init : Init → Broken
  in_init = fold-Init Broken init_step
