-- What expressions tell, in text order.
use Rattle.std.specs.Prelude.{Option, Some, None, List, [], ◌++◌, map, flat_map}
use Rattle.c_tree.specs.declared.expr.CExpr.{CExpr}
use Rattle.c_tree.specs.declared.expr.Assignment.{Assignment}
use Rattle.c_tree.specs.declared.expr.Cond.{Cond}
use Rattle.c_tree.specs.declared.expr.Choice.{Choice}
use Rattle.c_tree.specs.declared.expr.Chain.{Chain}
use Rattle.c_tree.specs.declared.expr.Term.{Term}
use Rattle.c_tree.specs.declared.expr.Operand.{Operand}
use Rattle.c_tree.specs.declared.expr.Primary.{Primary}
use Rattle.c_tree.specs.declared.expr.Suffix.{Suffix}
use Rattle.c_tree.specs.declared.expr.Primary.TheFolds.{para-Primary, para-Suffix, para-Assignment, para-CExpr, para-Chain, para-Choice, para-Cond, para-Operand, para-Term}
use Rattle.c_tree.specs.declared.expr.Primary.TheOpen.{Primary-F, Suffix-F, Assignment-F, CExpr-F, Chain-F, Choice-F, Cond-F, Operand-F, Term-F}
use Rattle.c_judge.specs.Calls.{Env}
use Rattle.c_walk.specs.Around.{Values}
use Rattle.c_facts.specs.declared.facts.CFact.{CFact}
use Rattle.c_facts.specs.Facts.{value_facts, called_facts, type_facts}

-- what is told
abbrev pub Facts : Type 0
Facts = List CFact

-- a part, and what is told inside it
abbrev pub Part : Type 0 → Type 0
Part A = A × Facts

-- what is told inside each of them
abbrev pub each : {A : Type 0} → List (Part A) → Facts
each ps = flat_map (λ p. p.1) ps

abbrev pub maybe : {A : Type 0} → Option (Part A) → Facts
maybe None = []
maybe (Some p) = p.1

-- the parts alone
abbrev pub parts : {A : Type 0} → List (Part A) → List A
parts ps = map (λ p. p.0) ps

module _ (env : Env) (values : Values) where
  -- an expression tells its own type first
  abbrev pub whole : Part CExpr → Facts
  whole p = type_facts env p.0 ++ p.1

  abbrev pub wholes : List (Part CExpr) → Facts
  wholes ps = flat_map whole ps

  abbrev pub primary_step : Primary-F (Part Primary) (Part Suffix) (Part Assignment) (Part CExpr) (Part Chain) (Part Choice) (Part Cond) (Part Operand) (Part Term) → Facts
  primary_step (Primary-F.Name n) = value_facts env values n
  primary_step (Primary-F.Number n) = []
  primary_step (Primary-F.Character c) = []
  primary_step (Primary-F.Text t) = []
  primary_step (Primary-F.Null k) = []
  primary_step (Primary-F.Call n k es) = called_facts env values n (parts es) ++ wholes es
  primary_step (Primary-F.Group k e) = whole e

  -- names of members tell nothing
  abbrev pub suffix_step : Suffix-F (Part Primary) (Part Suffix) (Part Assignment) (Part CExpr) (Part Chain) (Part Choice) (Part Cond) (Part Operand) (Part Term) → Facts
  suffix_step (Suffix-F.Index k e) = whole e
  suffix_step (Suffix-F.Member k n) = []
  suffix_step (Suffix-F.Arrow k n) = []
  suffix_step (Suffix-F.Increment k) = []
  suffix_step (Suffix-F.Decrement k) = []

  abbrev pub assignment_step : Assignment-F (Part Primary) (Part Suffix) (Part Assignment) (Part CExpr) (Part Chain) (Part Choice) (Part Cond) (Part Operand) (Part Term) → Facts
  assignment_step a = a.value.1

  abbrev pub expr_step : CExpr-F (Part Primary) (Part Suffix) (Part Assignment) (Part CExpr) (Part Chain) (Part Choice) (Part Cond) (Part Operand) (Part Term) → Facts
  expr_step e = e.first.1 ++ each e.rest

  abbrev pub chain_step : Chain-F (Part Primary) (Part Suffix) (Part Assignment) (Part CExpr) (Part Chain) (Part Choice) (Part Cond) (Part Operand) (Part Term) → Facts
  chain_step c = c.first.1 ++ each c.rest

  abbrev pub choice_step : Choice-F (Part Primary) (Part Suffix) (Part Assignment) (Part CExpr) (Part Chain) (Part Choice) (Part Cond) (Part Operand) (Part Term) → Facts
  choice_step c = whole c.yes ++ c.no.1

  abbrev pub cond_step : Cond-F (Part Primary) (Part Suffix) (Part Assignment) (Part CExpr) (Part Chain) (Part Choice) (Part Cond) (Part Operand) (Part Term) → Facts
  cond_step c = c.chain.1 ++ maybe c.choice

  -- what suffixes apply to, then the suffixes
  abbrev pub operand_step : Operand-F (Part Primary) (Part Suffix) (Part Assignment) (Part CExpr) (Part Chain) (Part Choice) (Part Cond) (Part Operand) (Part Term) → Facts
  operand_step o = o.primary.1 ++ each o.suffixes

  abbrev pub term_step : Term-F (Part Primary) (Part Suffix) (Part Assignment) (Part CExpr) (Part Chain) (Part Choice) (Part Cond) (Part Operand) (Part Term) → Facts
  term_step t = t.operand.1

  -- ---- what is told inside each kind of part

  -- behind an expression's own type
  abbrev pub inside : CExpr → Facts
  inside = para-CExpr Facts Facts Facts Facts Facts Facts Facts Facts Facts primary_step suffix_step assignment_step expr_step chain_step choice_step cond_step operand_step term_step

  abbrev pub assignment_facts : Assignment → Facts
  assignment_facts = para-Assignment Facts Facts Facts Facts Facts Facts Facts Facts Facts primary_step suffix_step assignment_step expr_step chain_step choice_step cond_step operand_step term_step

  abbrev pub cond_facts : Cond → Facts
  cond_facts = para-Cond Facts Facts Facts Facts Facts Facts Facts Facts Facts primary_step suffix_step assignment_step expr_step chain_step choice_step cond_step operand_step term_step

  abbrev pub choice_facts : Choice → Facts
  choice_facts = para-Choice Facts Facts Facts Facts Facts Facts Facts Facts Facts primary_step suffix_step assignment_step expr_step chain_step choice_step cond_step operand_step term_step

  abbrev pub chain_facts : Chain → Facts
  chain_facts = para-Chain Facts Facts Facts Facts Facts Facts Facts Facts Facts primary_step suffix_step assignment_step expr_step chain_step choice_step cond_step operand_step term_step

  abbrev pub term_facts : Term → Facts
  term_facts = para-Term Facts Facts Facts Facts Facts Facts Facts Facts Facts primary_step suffix_step assignment_step expr_step chain_step choice_step cond_step operand_step term_step

  abbrev pub operand_facts : Operand → Facts
  operand_facts = para-Operand Facts Facts Facts Facts Facts Facts Facts Facts Facts primary_step suffix_step assignment_step expr_step chain_step choice_step cond_step operand_step term_step

  abbrev pub primary_facts : Primary → Facts
  primary_facts = para-Primary Facts Facts Facts Facts Facts Facts Facts Facts Facts primary_step suffix_step assignment_step expr_step chain_step choice_step cond_step operand_step term_step

  abbrev pub suffix_facts : Suffix → Facts
  suffix_facts = para-Suffix Facts Facts Facts Facts Facts Facts Facts Facts Facts primary_step suffix_step assignment_step expr_step chain_step choice_step cond_step operand_step term_step

  -- an expression: its own type, then what its parts tell
  abbrev pub expr_facts : CExpr → Facts
  expr_facts e = type_facts env e ++ inside e

  -- what follows the condition of a conditional, if anything does
  abbrev pub branch_facts : Option Choice → Facts
  branch_facts None = []
  branch_facts (Some c) = choice_facts c
