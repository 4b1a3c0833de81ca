-- Statements without statements in them.
use Rattle.std.specs.Prelude.{ℕ, true, Option, Some, None, List, [], ◌++◌, map}
use Rattle.dpi_rules.specs.declared.violation.Violation.{Violation}
use Rattle.sv_tree.specs.declared.leaves.Name.{Name}
use Rattle.sv_tree.specs.declared.expr.Expr.{Expr, out-Expr}
use Rattle.sv_tree.specs.declared.expr.Call.{Call}
use Rattle.sv_tree.specs.declared.statements.Format.{Format}
use Rattle.sv_names.specs.declared.entry.Entry.{Entry}
use Rattle.sv_names.specs.Uses as uses
use Rattle.sv_typing.specs.declared.types.ExprType.{ExprType}
use Rattle.sv_contexts.specs.declared.formats.Shown.{Shown}
use Rattle.sv_contexts.specs.Formats as formats
use Rattle.sv_judge.specs.Calls.{Env, callee_violations}
use Rattle.sv_judge.specs.Judge.{judge, call}
use Rattle.sv_walk.specs.Values.{value_violations}
use Rattle.sv_walk.specs.Heads.{all_found}

-- the value of a `return` is assigned to the result
abbrev pub return_violations : Env → Option ExprType → Option Expr → List Violation
return_violations env result None = []
return_violations env result (Some e) = value_violations env result e

-- what `disable` names is looked up as in a call
abbrev pub disable_violations : Env → Name → List Violation
disable_violations env n = uses.disable_violations env.file n.token (env.calls n.bytes)

-- an argument of a format
abbrev pub shown : Env → Expr → Shown
shown env e = record { token = (out-Expr e).token; operand = (judge env e).whole.value }

abbrev pub format_violations : Env → Format → List Violation
format_violations env f =
    all_found env f.actuals ++ formats.format_violations env.file f.text.token f.text.bytes (map (shown env) f.actuals)

-- `$display` or `$write` with parentheses
abbrev pub show_violations : Env → Option Format → List Violation
show_violations env None = []
show_violations env (Some f) = format_violations env f

-- a call as a statement
abbrev pub call_violations : Env → Call → List Violation
call_violations env c = (call env c true).found

-- a name so declared, called at this token without actuals
abbrev pub bare_violations : Env → ℕ → Option Entry → List Violation
bare_violations env token entry =
    uses.call_violations env.file token entry ++ callee_violations env token (uses.called entry) 0 true

-- a name alone is such a call
abbrev pub name_violations : Env → Name → List Violation
name_violations env n = bare_violations env n.token (env.calls n.bytes)
