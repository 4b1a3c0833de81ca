-- Declarations of variables.
use Rattle.std.specs.Prelude.{Option, Some, None, List, [], ◌++◌, flat_map}
use Rattle.dpi_rules.specs.declared.violation.Violation.{Violation}
use Rattle.sv_tree.specs.declared.types.DataType.{DataType}
use Rattle.sv_tree.specs.declared.statements.Declarator.{Declarator}
use Rattle.sv_tree.specs.declared.statements.Initializer.{Initializer}
use Rattle.sv_tree.specs.declared.statements.Variables.{Variables}
use Rattle.sv_shapes.specs.Kinds.{var_kind, kind_violations}
use Rattle.sv_typing.specs.declared.types.ExprType.{ExprType}
use Rattle.sv_judge.specs.Calls.{Env, target_of}
use Rattle.sv_walk.specs.Values.{init_violations}

-- what a variable of this type begins with
abbrev pub initial_violations : Env → Option ExprType → Option Initializer → List Violation
initial_violations env target None = []
initial_violations env target (Some i) = init_violations env i.value target

-- a variable: its kind, and what it begins with
abbrev pub declarator_violations : Env → DataType → Declarator → List Violation
declarator_violations env type d =
    kind_violations env.file d.name.token type d.dimensions
    ++ initial_violations env (target_of (var_kind type d.dimensions)) d.initializer

abbrev pub variables_violations : Env → Variables → List Violation
variables_violations env v = flat_map (declarator_violations env v.kind) v.declarators
