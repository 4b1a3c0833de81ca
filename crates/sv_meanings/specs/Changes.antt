-- Changes of variables, and what a `for` begins with.
use Rattle.std.specs.Prelude.{◌++◌}
use Rattle.sv_tree.specs.declared.expr.Expr.{Expr}
use Rattle.sv_tree.specs.declared.statements.Change.{Change}
use Rattle.sv_tree.specs.declared.statements.Change.TheVariants as changes
use Rattle.sv_tree.specs.declared.statements.Start.{Start}
use Rattle.sv_tree.specs.declared.statements.Start.TheVariants as starts
use Rattle.sv_judge.specs.Calls.{Env}
use Rattle.sv_facts.specs.Exprs.{expr_facts, lvalue_facts}
use Rattle.sv_meanings.specs.Places.{Facts}
use Rattle.sv_meanings.specs.Declarations.{declares, init_facts}

-- what is changed, then what it is changed by
abbrev pub change_facts : Env → Change → Facts
change_facts env (changes.Assign l k init) = lvalue_facts env l ++ init_facts env init
change_facts env (changes.Compute l k operator e) = lvalue_facts env l ++ expr_facts env e
change_facts env (changes.Step l k operator) = lvalue_facts env l

-- a `for` begins with a variable of its own, or with an assignment
abbrev pub start_facts : Env → Start → Facts
start_facts env (starts.Declare type n k e) = declares n ++ expr_facts env e
start_facts env (starts.Assign l k e) = lvalue_facts env l ++ expr_facts env e

-- the head of a `for`, inside its scope
abbrev pub head_facts : Env → Start → Expr → Change → Facts
head_facts env start condition change = start_facts env start ++ expr_facts env condition ++ change_facts env change
