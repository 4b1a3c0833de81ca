-- What the items of a module see.
use Rattle.std.specs.Prelude.{ℕ, false, Option, None, List, [], ◌∷◌, ◌++◌, map, flat_map}
use Rattle.sv_tree.specs.declared.items.Function.{Function}
use Rattle.sv_tree.specs.declared.items.Task.{Task}
use Rattle.sv_tree.specs.declared.items.Item.{Item}
use Rattle.sv_tree.specs.declared.items.Item.TheVariants as items
use Rattle.sv_shapes.specs.declared.kinds.VarKind.{VarKind}
use Rattle.sv_signatures.specs.declared.formals.Formal.{Formal}
use Rattle.sv_signatures.specs.declared.signatures.Signature.{Signature}
use Rattle.sv_signatures.specs.declared.signatures.ImportSignature.{ImportSignature}
use Rattle.sv_signatures.specs.Signatures as signatures
use Rattle.sv_names.specs.declared.scope.Scope.{Scope}
use Rattle.sv_names.specs.declared.scopes.Scopes.{Scopes}
use Rattle.sv_names.specs.Names.{no_names, names_of}
use Rattle.sv_names.specs.Scopes.{scopes_of}
use Rattle.sv_names.specs.Declaring.{Declared, with_all}
use Rattle.sv_names.specs.Declarations.{module_declares}
use Rattle.sv_names.specs.Subroutines.{function_declares, task_declares}
use Rattle.sv_instances.specs.Modules.{InFile}
use Rattle.sv_walk.specs.declared.around.Around.{Around}
use Rattle.sv_walk.specs.Around.{Inside, inside}

-- what the code's place and scopes mean
abbrev pub here : Around → Scopes → Inside
here around scopes = inside around (scopes_of scopes)

-- the same with one scope more
abbrev pub here_in : Around → Scopes → Scope → Inside
here_in around scopes scope = inside around (scopes_of scopes ++ names_of scope ∷ [])

-- the signature of a function or a task
abbrev pub item_subroutines : Item → List Signature
item_subroutines (items.Variables v) = []
item_subroutines (items.Import i) = []
item_subroutines (items.Export x) = []
item_subroutines (items.Function f) = signatures.function_signature f ∷ []
item_subroutines (items.Task t) = signatures.task_signature t ∷ []
item_subroutines (items.Initial k s) = []
item_subroutines (items.Instance m n) = []

-- the signature of an import
abbrev pub item_imports : Item → List ImportSignature
item_imports (items.Variables v) = []
item_imports (items.Import i) = signatures.import_signature i ∷ []
item_imports (items.Export x) = []
item_imports (items.Function f) = []
item_imports (items.Task t) = []
item_imports (items.Initial k s) = []
item_imports (items.Instance m n) = []

-- what the items of a module see: the module's scope, its functions and tasks, and its imports, in text order
abbrev pub in_module : InFile → Inside
in_module m = record {
  file = m.file;
  scopes = with_all no_names (module_declares m.tree) ∷ [];
  subroutines = flat_map item_subroutines m.tree.items;
  imports = flat_map item_imports m.tree.items;
  in_function = false;
  result = None;
}

-- the kinds of formals
abbrev pub kinds_of : List Formal → List (Option VarKind)
kinds_of fs = map (λ (f : Formal). f.kind) fs

-- what a function declares in its scope
abbrev pub inner_of_function : Function → List Declared
inner_of_function f = function_declares (kinds_of (signatures.function_signature f).formals) f

-- what a task declares in its scope
abbrev pub inner_of_task : Task → List Declared
inner_of_task t = task_declares (kinds_of (signatures.task_signature t).formals) t
