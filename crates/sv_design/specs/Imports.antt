-- Imports.
use Rattle.std.specs.Prelude.{ℕ, Bool, true, false, Option, Some, None, List, [], ◌∷◌, flat_map}
use Rattle.sv_tree.specs.declared.kinds.Direction.{Direction}
use Rattle.sv_tree.specs.declared.kinds.Property.{Property}
use Rattle.sv_tree.specs.declared.kinds.Property.TheVariants as properties
use Rattle.sv_tree.specs.declared.leaves.Name.{Name}
use Rattle.sv_tree.specs.declared.items.Trait.{Trait}
use Rattle.sv_tree.specs.declared.items.Import.{Import as Tree}
use Rattle.sv_tree.specs.declared.items.Item.{Item}
use Rattle.sv_tree.specs.declared.items.Item.TheVariants as items
use Rattle.sv_tree.specs.declared.items.SvFile.{SvFile}
use Rattle.sv_shapes.specs.declared.kinds.VarKind.{VarKind}
use Rattle.sv_shapes.specs.declared.imports.FormalKind.{FormalKind}
use Rattle.sv_signatures.specs.declared.imports.ImportFormal.{ImportFormal as Signed}
use Rattle.sv_signatures.specs.declared.results.Returns.{Returns}
use Rattle.sv_signatures.specs.declared.results.Returns.TheVariants.{Void, Value}
use Rattle.sv_signatures.specs.declared.signatures.ImportSignature.{ImportSignature}
use Rattle.sv_signatures.specs.Signatures.{import_signature}
use Rattle.sv_instances.specs.Modules.{InFile, modules_in}
use Rattle.sv_design.specs.declared.imports.Import.{Import}
use Rattle.sv_design.specs.declared.imports.ImportFormal.{ImportFormal}

-- the name in C is the one that is written, else the name
abbrev pub c_name_of : Option Name → Name → List ℕ
c_name_of None name = name.bytes
c_name_of (Some c) name = c.bytes

abbrev pub is_context_by : Property → Bool
is_context_by properties.Context = true
is_context_by properties.Pure = false

-- `context` stands before it
abbrev pub is_context : Option Trait → Bool
is_context None = false
is_context (Some t) = is_context_by t.property

-- the kind of what is given, if there is one
abbrev pub result_kind : Returns → Option VarKind
result_kind Void = None
result_kind (Value kind) = kind

abbrev pub formal_by : Direction → Option FormalKind → List ImportFormal
formal_by direction None = []
formal_by direction (Some kind) = record { dir = direction; kind = kind } ∷ []

-- a formal; one whose kind is refused is left out
abbrev pub formal : Signed → List ImportFormal
formal f = formal_by f.direction f.kind

abbrev pub signed_import : ℕ → Tree → ImportSignature → Import
signed_import file tree s = record {
  file = file;
  token = s.token;
  c_name = c_name_of tree.c_name tree.name;
  is_task = s.is_task;
  context = is_context tree.property;
  result = result_kind s.result;
  formals = flat_map formal s.formals;
}

-- an import in a file of this number
abbrev pub import_of : ℕ → Tree → Import
import_of file tree = signed_import file tree (import_signature tree)

-- the import that an item is, if it is one
abbrev pub item_imports : ℕ → Item → List Import
item_imports file (items.Variables v) = []
item_imports file (items.Import i) = import_of file i ∷ []
item_imports file (items.Export e) = []
item_imports file (items.Function f) = []
item_imports file (items.Task t) = []
item_imports file (items.Initial k s) = []
item_imports file (items.Instance m n) = []

abbrev pub module_imports : InFile → List Import
module_imports m = flat_map (item_imports m.file) m.tree.items

-- the imports of a design, in the order of files and text
abbrev pub imports_in : List SvFile → List Import
imports_in files = flat_map module_imports (modules_in files)
