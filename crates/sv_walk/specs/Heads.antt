-- Conditions, counts, and what a `case` compares.
use Rattle.std.specs.Prelude.{ℕ, Option, Some, None, List, [], ◌∷◌, ◌++◌, flat_map, map}
use Rattle.dpi_rules.specs.declared.violation.Violation.{Violation}
use Rattle.sv_tree.specs.declared.expr.Expr.{Expr, out-Expr}
use Rattle.sv_tree.specs.declared.statements.CaseItem.{CaseItem, out-CaseItem}
use Rattle.sv_typing.specs.declared.types.Operand.{Operand}
use Rattle.sv_contexts.specs.Conditions as contexts
use Rattle.sv_contexts.specs.Cases.{case_violations}
use Rattle.sv_judge.specs.Calls.{Env}
use Rattle.sv_judge.specs.Judge.{judge}

-- the condition of an `if` or of a loop
abbrev pub condition_violations : Env → Expr → List Violation
condition_violations env e = (judge env e).found ++ contexts.condition_violations env.file (out-Expr e).token (judge env e).whole.value

-- the count of a `repeat`
abbrev pub count_violations : Env → Expr → List Violation
count_violations env e = (judge env e).found ++ contexts.count_violations env.file (out-Expr e).token (judge env e).whole.value

-- what an expression is, if it has a type
abbrev pub value_of : Env → Expr → Option Operand
value_of env e = (judge env e).whole.value

-- what several expressions violate by themselves
abbrev pub all_found : Env → List Expr → List Violation
all_found env = flat_map (λ e. (judge env e).found)

-- the values that are written; `default` has none
abbrev pub values_in : Option (List Expr) → List Expr
values_in None = []
values_in (Some es) = es

abbrev pub item_values : CaseItem → List Expr
item_values item = values_in (out-CaseItem item).values

-- the expression of a `case` and all values of its items
abbrev pub compared : Expr → List CaseItem → List Expr
compared e items = e ∷ flat_map item_values items

-- what a `case` at this keyword compares
abbrev pub compared_violations : Env → ℕ → List Expr → List Violation
compared_violations env k es = all_found env es ++ case_violations env.file k (map (value_of env) es)
