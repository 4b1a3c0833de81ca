-- Values and patterns that are assigned.
use Rattle.std.specs.Prelude.{Option, Some, None, List, ◌++◌, flat_map, length}
use Rattle.dpi_rules.specs.declared.violation.Violation.{Violation}
use Rattle.sv_tree.specs.declared.expr.Expr.{Expr, out-Expr}
use Rattle.sv_tree.specs.declared.statements.Init.{Init, fold-Init}
use Rattle.sv_tree.specs.declared.statements.Init.TheOpen.{Init-F}
use Rattle.sv_typing.specs.declared.types.ExprType.{ExprType}
use Rattle.sv_typing.specs.declared.types.Operand.{Operand}
use Rattle.sv_contexts.specs.Assignments.{assigned}
use Rattle.sv_contexts.specs.Patterns.{pattern_violations, part_target}
use Rattle.sv_judge.specs.Calls.{Env}
use Rattle.sv_judge.specs.Judge.{judge}

-- the type of an expression that has one
abbrev pub type_of : Option Operand → Option ExprType
type_of None = None
type_of (Some o) = Some o.of

-- a value that is assigned to what has this type
abbrev pub value_violations : Env → Option ExprType → Expr → List Violation
value_violations env target e = (judge env e).found ++ assigned env.file (out-Expr e).token target (judge env e).whole.value

-- what an initialiser violates, by the type of what it is assigned to
abbrev pub Assigned : Type 0
Assigned = Option ExprType → List Violation

module _ (env : Env) where
  -- a pattern has a part for each index, and each part is assigned
  abbrev pub init_step : Init-F Assigned → Assigned
  init_step (Init-F.Value e) target = value_violations env target e
  init_step (Init-F.Pattern k parts) target =
      pattern_violations env.file k target (length parts) ++ flat_map (λ (p : Assigned). p (part_target target)) parts

  abbrev pub init_violations : Init → Assigned
  init_violations = fold-Init Assigned init_step
