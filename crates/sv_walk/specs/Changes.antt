-- Changes of variables, and what a `for` begins with.
use Rattle.std.specs.Prelude.{ℕ, Option, List, [], ◌++◌}
use Rattle.dpi_rules.specs.declared.violation.Violation.{Violation}
use Rattle.sv_tree.specs.declared.leaves.Name.{Name}
use Rattle.sv_tree.specs.declared.operators.AssignOperator.{AssignOperator}
use Rattle.sv_tree.specs.declared.types.DataType.{DataType}
use Rattle.sv_tree.specs.declared.expr.Expr.{Expr}
use Rattle.sv_tree.specs.declared.expr.Lvalue.{Lvalue}
use Rattle.sv_tree.specs.declared.statements.Change.{Change}
use Rattle.sv_tree.specs.declared.statements.Change.TheVariants as changes
use Rattle.sv_tree.specs.declared.statements.Init.{Init}
use Rattle.sv_tree.specs.declared.statements.Start.{Start}
use Rattle.sv_tree.specs.declared.statements.Start.TheVariants as starts
use Rattle.sv_shapes.specs.Kinds.{var_kind, kind_violations}
use Rattle.sv_typing.specs.declared.types.Operand.{Operand}
use Rattle.sv_typing.specs.Selects.{read}
use Rattle.sv_contexts.specs.Assignments.{computed, stepped}
use Rattle.sv_judge.specs.Calls.{Env, target_of}
use Rattle.sv_judge.specs.Judge.{judge, lvalue}
use Rattle.sv_walk.specs.Values.{type_of, value_violations, init_violations}
use Rattle.sv_walk.specs.Heads.{condition_violations}

-- what a name with its selects is, as an expression
abbrev pub place_value : Env → Lvalue → Option Operand
place_value env l = read (lvalue env l).value

-- an assignment of a value or a pattern
abbrev pub assignment_violations : Env → Lvalue → Init → List Violation
assignment_violations env l init = (lvalue env l).found ++ init_violations env init (type_of (place_value env l))

-- an assignment operator at this token
abbrev pub computation_violations : Env → Lvalue → ℕ → AssignOperator → Expr → List Violation
computation_violations env l k operator e =
    (lvalue env l).found ++ (judge env e).found ++ computed env.file k operator (place_value env l) (judge env e).whole.value

-- `++` or `--` at this token
abbrev pub step_violations : Env → Lvalue → ℕ → List Violation
step_violations env l k = (lvalue env l).found ++ stepped env.file k (place_value env l)

abbrev pub change_violations : Env → Change → List Violation
change_violations env (changes.Assign l k init) = assignment_violations env l init
change_violations env (changes.Compute l k operator e) = computation_violations env l k operator e
change_violations env (changes.Step l k operator) = step_violations env l k

-- a variable that a `for` declares, with its value
abbrev pub loop_variable_violations : Env → DataType → Name → Expr → List Violation
loop_variable_violations env type n e =
    kind_violations env.file n.token type [] ++ value_violations env (target_of (var_kind type [])) e

-- an assignment that a `for` begins with
abbrev pub start_assignment_violations : Env → Lvalue → Expr → List Violation
start_assignment_violations env l e = (lvalue env l).found ++ value_violations env (type_of (place_value env l)) e

-- a `for` begins with a variable of its own, or with an assignment
abbrev pub start_violations : Env → Start → List Violation
start_violations env (starts.Declare type n k e) = loop_variable_violations env type n e
start_violations env (starts.Assign l k e) = start_assignment_violations env l e

-- the head of a `for`, inside its scope
abbrev pub head_violations : Env → Start → Expr → Change → List Violation
head_violations env start condition change =
    start_violations env start ++ condition_violations env condition ++ change_violations env change
