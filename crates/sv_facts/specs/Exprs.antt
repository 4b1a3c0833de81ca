-- What expressions tell, in text order.
use Rattle.std.specs.Prelude.{Option, Some, None, List, [], ◌++◌, flat_map}
use Rattle.sv_tree.specs.declared.expr.Expr.{Expr}
use Rattle.sv_tree.specs.declared.expr.Choice.{Choice}
use Rattle.sv_tree.specs.declared.expr.Chain.{Chain}
use Rattle.sv_tree.specs.declared.expr.Term.{Term}
use Rattle.sv_tree.specs.declared.expr.Operand.{Operand}
use Rattle.sv_tree.specs.declared.expr.Primary.{Primary}
use Rattle.sv_tree.specs.declared.expr.Lvalue.{Lvalue}
use Rattle.sv_tree.specs.declared.expr.Select.{Select}
use Rattle.sv_tree.specs.declared.expr.Call.{Call}
use Rattle.sv_tree.specs.declared.expr.Primary.TheFolds.{para-Primary, para-Select, para-Call, para-Chain, para-Choice, para-Expr, para-Lvalue, para-Operand, para-Term}
use Rattle.sv_tree.specs.declared.expr.Primary.TheOpen.{Primary-F, Select-F, Call-F, Chain-F, Choice-F, Expr-F, Lvalue-F, Operand-F, Term-F}
use Rattle.sv_judge.specs.Calls.{Env}
use Rattle.sv_facts.specs.declared.facts.Fact.{Fact}
use Rattle.sv_facts.specs.Facts.{value_facts, called_facts, type_facts}

-- what is told
abbrev pub Facts : Type 0
Facts = List Fact

-- a part, and what is told inside it
abbrev pub Part : Type 0 → Type 0
Part A = A × Facts

-- what is told inside each of them
abbrev pub each : {A : Type 0} → List (Part A) → Facts
each ps = flat_map (λ p. p.1) ps

abbrev pub maybe : {A : Type 0} → Option (Part A) → Facts
maybe None = []
maybe (Some p) = p.1

module _ (env : Env) where
  -- an expression tells its own type first
  abbrev pub whole : Part Expr → Facts
  whole p = type_facts env p.0 ++ p.1

  abbrev pub wholes : List (Part Expr) → Facts
  wholes ps = flat_map whole ps

  abbrev pub primary_step : Primary-F (Part Primary) (Part Select) (Part Call) (Part Chain) (Part Choice) (Part Expr) (Part Lvalue) (Part Operand) (Part Term) → Facts
  primary_step (Primary-F.Number n) = []
  primary_step (Primary-F.Text t) = []
  primary_step (Primary-F.Null k) = []
  primary_step (Primary-F.Place l) = l.1
  primary_step (Primary-F.Call c) = c.1
  primary_step (Primary-F.Group k e) = whole e
  primary_step (Primary-F.Concatenation k es) = wholes es
  primary_step (Primary-F.Repetition k n es) = wholes es
  primary_step (Primary-F.Signed k e) = whole e
  primary_step (Primary-F.Unsigned k e) = whole e

  abbrev pub select_step : Select-F (Part Primary) (Part Select) (Part Call) (Part Chain) (Part Choice) (Part Expr) (Part Lvalue) (Part Operand) (Part Term) → Facts
  select_step (Select-F.Index k e) = whole e
  select_step (Select-F.Range k a b) = []
  select_step (Select-F.Up k e n) = whole e
  select_step (Select-F.Down k e n) = whole e

  -- the name of what is called, then the actuals
  abbrev pub call_step : Call-F (Part Primary) (Part Select) (Part Call) (Part Chain) (Part Choice) (Part Expr) (Part Lvalue) (Part Operand) (Part Term) → Facts
  call_step c = called_facts env c.name ++ wholes c.actuals

  abbrev pub chain_step : Chain-F (Part Primary) (Part Select) (Part Call) (Part Chain) (Part Choice) (Part Expr) (Part Lvalue) (Part Operand) (Part Term) → Facts
  chain_step c = c.first.1 ++ each c.rest

  abbrev pub choice_step : Choice-F (Part Primary) (Part Select) (Part Call) (Part Chain) (Part Choice) (Part Expr) (Part Lvalue) (Part Operand) (Part Term) → Facts
  choice_step c = whole c.yes ++ whole c.no

  abbrev pub expr_step : Expr-F (Part Primary) (Part Select) (Part Call) (Part Chain) (Part Choice) (Part Expr) (Part Lvalue) (Part Operand) (Part Term) → Facts
  expr_step e = e.chain.1 ++ maybe e.choice

  -- the name, then its selects
  abbrev pub lvalue_step : Lvalue-F (Part Primary) (Part Select) (Part Call) (Part Chain) (Part Choice) (Part Expr) (Part Lvalue) (Part Operand) (Part Term) → Facts
  lvalue_step l = value_facts env l.name ++ each l.selects

  abbrev pub operand_step : Operand-F (Part Primary) (Part Select) (Part Call) (Part Chain) (Part Choice) (Part Expr) (Part Lvalue) (Part Operand) (Part Term) → Facts
  operand_step o = o.primary.1

  abbrev pub term_step : Term-F (Part Primary) (Part Select) (Part Call) (Part Chain) (Part Choice) (Part Expr) (Part Lvalue) (Part Operand) (Part Term) → Facts
  term_step t = t.operand.1

  -- ---- what is told inside each kind of part

  -- behind an expression's own type
  abbrev pub inside : Expr → Facts
  inside = para-Expr Facts Facts Facts Facts Facts Facts Facts Facts Facts primary_step select_step call_step chain_step choice_step expr_step lvalue_step operand_step term_step

  abbrev pub choice_facts : Choice → Facts
  choice_facts = para-Choice Facts Facts Facts Facts Facts Facts Facts Facts Facts primary_step select_step call_step chain_step choice_step expr_step lvalue_step operand_step term_step

  abbrev pub chain_facts : Chain → Facts
  chain_facts = para-Chain Facts Facts Facts Facts Facts Facts Facts Facts Facts primary_step select_step call_step chain_step choice_step expr_step lvalue_step operand_step term_step

  abbrev pub term_facts : Term → Facts
  term_facts = para-Term Facts Facts Facts Facts Facts Facts Facts Facts Facts primary_step select_step call_step chain_step choice_step expr_step lvalue_step operand_step term_step

  abbrev pub operand_facts : Operand → Facts
  operand_facts = para-Operand Facts Facts Facts Facts Facts Facts Facts Facts Facts primary_step select_step call_step chain_step choice_step expr_step lvalue_step operand_step term_step

  abbrev pub primary_facts : Primary → Facts
  primary_facts = para-Primary Facts Facts Facts Facts Facts Facts Facts Facts Facts primary_step select_step call_step chain_step choice_step expr_step lvalue_step operand_step term_step

  abbrev pub select_facts : Select → Facts
  select_facts = para-Select Facts Facts Facts Facts Facts Facts Facts Facts Facts primary_step select_step call_step chain_step choice_step expr_step lvalue_step operand_step term_step

  -- a name with its selects
  abbrev pub lvalue_facts : Lvalue → Facts
  lvalue_facts = para-Lvalue Facts Facts Facts Facts Facts Facts Facts Facts Facts primary_step select_step call_step chain_step choice_step expr_step lvalue_step operand_step term_step

  -- a call, in an expression or as a statement
  abbrev pub call_facts : Call → Facts
  call_facts = para-Call Facts Facts Facts Facts Facts Facts Facts Facts Facts primary_step select_step call_step chain_step choice_step expr_step lvalue_step operand_step term_step

  -- an expression: its own type, then what its parts tell
  abbrev pub expr_facts : Expr → Facts
  expr_facts e = type_facts env e ++ inside e

  -- what follows the condition of a conditional, if anything does
  abbrev pub branch_facts : Option Choice → Facts
  branch_facts None = []
  branch_facts (Some c) = choice_facts c
