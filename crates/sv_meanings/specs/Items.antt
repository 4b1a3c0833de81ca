-- What the items of modules tell.
use Rattle.std.specs.Prelude.{Bool, true, false, Option, List, ◌++◌, flat_map}
use Rattle.sv_tree.specs.declared.items.Body.{Body}
use Rattle.sv_tree.specs.declared.items.Export.{Export}
use Rattle.sv_tree.specs.declared.items.Formal.{Formal}
use Rattle.sv_tree.specs.declared.items.Function.{Function}
use Rattle.sv_tree.specs.declared.items.Task.{Task}
use Rattle.sv_tree.specs.declared.items.Item.{Item}
use Rattle.sv_tree.specs.declared.items.Item.TheVariants as items
use Rattle.sv_names.specs.Names.{Names}
use Rattle.sv_names.specs.Scopes.{find}
use Rattle.sv_names.specs.Declaring.{Declared}
use Rattle.sv_names.specs.Subroutines.{formals_in}
use Rattle.sv_walk.specs.Around.{Inside, env, within}
use Rattle.sv_inside.specs.Seen.{inner_of_function, inner_of_task}
use Rattle.sv_facts.specs.declared.facts.Meant.TheVariants as meanings
use Rattle.sv_facts.specs.Facts.{name_facts}
use Rattle.sv_meanings.specs.Places.{Facts}
use Rattle.sv_meanings.specs.Declarations.{means, declares, variables_facts}
use Rattle.sv_meanings.specs.Statements.{in_stmt, in_body}

-- the formals that are written
abbrev pub formals_facts : Option (List Formal) → Facts
formals_facts fs = flat_map (λ (f : Formal). declares f.name) (formals_in fs)

-- inside a function or a task with these declarations
abbrev pub in_subroutine : Inside → List Declared → Bool → Inside
in_subroutine i ds in_function = record (within i ds) { in_function = in_function }

-- the variables and statements of a body
abbrev pub body_facts : Inside → Body → Facts
body_facts i body = in_body body.variables body.statements i

-- a function: its name, its formals, and what stands inside its scope; its result is told where it is used
abbrev pub function_facts : Inside → Function → Facts
function_facts i f =
    means f.name (meanings.Subroutine f.name.token)
    ++ formals_facts f.formals
    ++ body_facts (in_subroutine i (inner_of_function f) true) f.body

-- a task likewise
abbrev pub task_facts : Inside → Task → Facts
task_facts i t =
    means t.name (meanings.Subroutine t.name.token)
    ++ formals_facts t.formals
    ++ body_facts (in_subroutine i (inner_of_task t) false) t.body

-- what an export names is looked up in its module
abbrev pub export_facts : List Names → Export → Facts
export_facts scopes x = name_facts x.name.token (find scopes x.name.bytes)

-- an item; of an instance the name of the module
abbrev pub item_facts : Inside → Item → Facts
item_facts i (items.Variables v) = variables_facts (env i) v
item_facts i (items.Import m) = means m.name (meanings.Import m.name.token)
item_facts i (items.Export x) = export_facts i.scopes x
item_facts i (items.Function f) = function_facts i f
item_facts i (items.Task t) = task_facts i t
item_facts i (items.Initial k s) = in_stmt s i
item_facts i (items.Instance m n) = means m meanings.Module
