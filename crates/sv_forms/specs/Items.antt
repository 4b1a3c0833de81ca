-- Items, modules and files.
use Rattle.std.specs.Prelude.{ℕ, Bool, true, false, Option, Some, None, List, [], ◌∷◌, ◌++◌, map}
use Rattle.sv_tree.specs.declared.kinds.Lifetime.{Lifetime}
use Rattle.sv_tree.specs.declared.kinds.Lifetime.TheVariants as lifetimes
use Rattle.sv_tree.specs.declared.statements.Declarator.{Declarator}
use Rattle.sv_tree.specs.declared.statements.Initializer.{Initializer}
use Rattle.sv_tree.specs.declared.statements.Variables.{Variables}
use Rattle.sv_tree.specs.declared.items.Life.{Life}
use Rattle.sv_tree.specs.declared.items.Outcome.{Outcome}
use Rattle.sv_tree.specs.declared.items.Outcome.TheVariants as outcomes
use Rattle.sv_tree.specs.declared.items.Body.{Body}
use Rattle.sv_tree.specs.declared.items.Function.{Function}
use Rattle.sv_tree.specs.declared.items.Task.{Task}
use Rattle.sv_tree.specs.declared.items.Item.{Item}
use Rattle.sv_tree.specs.declared.items.Item.TheVariants as items
use Rattle.sv_tree.specs.declared.items.Module.{Module}
use Rattle.sv_tree.specs.declared.items.SvFile.{SvFile}
use Rattle.sv_forms.specs.declared.around.Around.{Around}
use Rattle.sv_forms.specs.declared.around.Surroundings.{Surroundings}
use Rattle.sv_forms.specs.declared.around.Surroundings.TheVariants.{Initial, Plain, Valued}
use Rattle.sv_forms.specs.Calls.{Broken, all_of, in_init}
use Rattle.sv_forms.specs.Labels.{end_violations}
use Rattle.sv_forms.specs.Statements.{locals_violations, in_stmt, each_at}

abbrev pub is_automatic_by : Lifetime → Bool
is_automatic_by lifetimes.Automatic = true
is_automatic_by lifetimes.Static = false

-- a subroutine is static unless it is `automatic`
abbrev pub is_automatic : Option Life → Bool
is_automatic None = false
is_automatic (Some life) = is_automatic_by life.lifetime

-- what a function gives
abbrev pub surroundings_of : Outcome → Surroundings
surroundings_of (outcomes.Data type) = Valued
surroundings_of (outcomes.Void k) = Plain

-- the outside of a body
abbrev pub outside : Surroundings → Bool → Around
outside body automatic = record { body = body; automatic = automatic; looped = false }

-- the locals and statements of a body
abbrev pub body_violations : ℕ → Around → Body → Broken
body_violations file around body =
    all_of (map (locals_violations file around) body.variables) ++ each_at around (map (in_stmt file) body.statements)

abbrev pub function_violations : ℕ → Function → Broken
function_violations file f =
    body_violations file (outside (surroundings_of f.outcome) (is_automatic f.life)) f.body ++ end_violations file f.name f.end

abbrev pub task_violations : ℕ → Task → Broken
task_violations file t =
    body_violations file (outside Plain (is_automatic t.life)) t.body ++ end_violations file t.name t.end

-- a call in the initialiser of a module's variable
abbrev pub initial_calls : ℕ → Option Initializer → Broken
initial_calls file None = []
initial_calls file (Some i) = in_init file i.value

abbrev pub declarator_calls : ℕ → Declarator → Broken
declarator_calls file d = initial_calls file d.initializer

abbrev pub variables_violations : ℕ → Variables → Broken
variables_violations file v = all_of (map (declarator_calls file) v.declarators)

abbrev pub item_violations : ℕ → Item → Broken
item_violations file (items.Variables v) = variables_violations file v
item_violations file (items.Import i) = []
item_violations file (items.Export e) = []
item_violations file (items.Function f) = function_violations file f
item_violations file (items.Task t) = task_violations file t
item_violations file (items.Initial k s) = in_stmt file s (outside Initial false)
item_violations file (items.Instance m n) = []

abbrev pub module_violations : ℕ → Module → Broken
module_violations file m = all_of (map (item_violations file) m.items) ++ end_violations file m.name m.end

-- what a file of this number breaks
abbrev pub file_violations : ℕ → SvFile → Broken
file_violations file f = all_of (map (module_violations file) f.modules)
