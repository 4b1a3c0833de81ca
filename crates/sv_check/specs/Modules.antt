-- What a module violates: names, signatures and items.
use Rattle.std.specs.Prelude.{ℕ, Bool, true, false, Option, None, List, [], ◌++◌, flat_map}
use Rattle.dpi_rules.specs.declared.violation.Violation.{Violation}
use Rattle.sv_tree.specs.declared.items.Body.{Body}
use Rattle.sv_tree.specs.declared.items.Export.{Export}
use Rattle.sv_tree.specs.declared.items.Function.{Function}
use Rattle.sv_tree.specs.declared.items.Task.{Task}
use Rattle.sv_tree.specs.declared.items.Item.{Item}
use Rattle.sv_tree.specs.declared.items.Item.TheVariants as items
use Rattle.sv_signatures.specs.declared.results.Returns.{Returns}
use Rattle.sv_signatures.specs.declared.results.Returns.TheVariants as results
use Rattle.sv_signatures.specs.Signatures as signatures
use Rattle.sv_names.specs.Names.{Names, no_names}
use Rattle.sv_names.specs.Scopes.{find}
use Rattle.sv_names.specs.Declaring.{Declared, seconds}
use Rattle.sv_names.specs.Declarations.{module_declares}
use Rattle.sv_names.specs.Uses.{export_violations}
use Rattle.sv_instances.specs.Modules.{InFile}
use Rattle.sv_typing.specs.declared.types.ExprType.{ExprType}
use Rattle.sv_judge.specs.Calls.{target_of}
use Rattle.sv_walk.specs.Around.{Inside, env, within}
use Rattle.sv_walk.specs.Declarations.{variables_violations}
use Rattle.sv_walk.specs.Walk.{in_stmt, in_body}
use Rattle.sv_inside.specs.Seen.{in_module, inner_of_function, inner_of_task}

-- the type that `return` gives
abbrev pub result_type : Returns → Option ExprType
result_type results.Void = None
result_type (results.Value kind) = target_of kind

-- inside a function or a task with these declarations, which gives this type
abbrev pub in_subroutine : Inside → List Declared → Bool → Option ExprType → Inside
in_subroutine i ds in_function result = record (within i ds) { in_function = in_function; result = result }

-- variables and statements of a function or a task
abbrev pub body_violations : Inside → Body → List Violation
body_violations i body = in_body body.variables body.statements i

-- second declarations in the scope of a function or a task, and its variables and statements inside that scope
abbrev pub scope_violations : Inside → List Declared → Bool → Option ExprType → Body → List Violation
scope_violations i ds in_function result body =
    seconds i.file no_names ds ++ body_violations (in_subroutine i ds in_function result) body

-- a function: its signature, and its scope
abbrev pub function_violations : Inside → Function → List Violation
function_violations i f =
    signatures.function_violations i.file f
    ++ scope_violations i (inner_of_function f) true (result_type (signatures.function_signature f).result) f.body

-- a task: its signature, and its scope
abbrev pub task_violations : Inside → Task → List Violation
task_violations i t = signatures.task_violations i.file t ++ scope_violations i (inner_of_task t) false None t.body

-- an export names something of its module, whose scopes these are
abbrev pub exported_violations : ℕ → List Names → Export → List Violation
exported_violations file scopes x = export_violations file x.name.token (find scopes x.name.bytes)

-- what an item violates; that an instance's module is unknown is said where instances are
abbrev pub item_violations : Inside → Item → List Violation
item_violations i (items.Variables v) = variables_violations (env i) v
item_violations i (items.Import m) = signatures.import_violations i.file m
item_violations i (items.Export x) = exported_violations i.file i.scopes x
item_violations i (items.Function f) = function_violations i f
item_violations i (items.Task t) = task_violations i t
item_violations i (items.Initial k s) = in_stmt s i
item_violations i (items.Instance m n) = []

-- second declarations in the scope of a module, and what its items violate
abbrev pub module_violations : InFile → List Violation
module_violations m =
    seconds m.file no_names (module_declares m.tree) ++ flat_map (item_violations (in_module m)) m.tree.items
