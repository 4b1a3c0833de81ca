-- Exports.
use Rattle.std.specs.Prelude.{ℕ, ◌+◌, Bool, false, if◌then◌else◌, Option, Some, None, List, [], ◌∷◌, ◌++◌, flat_map}
use Rattle.std.specs.Str.{bytes_eq}
use Rattle.sv_tree.specs.declared.items.Export.{Export as Tree}
use Rattle.sv_tree.specs.declared.items.Item.{Item}
use Rattle.sv_tree.specs.declared.items.Item.TheVariants as items
use Rattle.sv_tree.specs.declared.items.SvFile.{SvFile}
use Rattle.sv_instances.specs.Modules.{InFile, modules_in}
use Rattle.sv_design.specs.declared.exports.Export.{Export}
use Rattle.sv_design.specs.Imports.{c_name_of}

-- an item is a subroutine of this name
abbrev pub is_named : List ℕ → Item → Bool
is_named name (items.Variables v) = false
is_named name (items.Import i) = false
is_named name (items.Export e) = false
is_named name (items.Function f) = bytes_eq f.name.bytes name
is_named name (items.Task t) = bytes_eq t.name.bytes name
is_named name (items.Initial k s) = false
is_named name (items.Instance m n) = false

-- behind an item, where this number is the next of a subroutine
abbrev pub behind_item : ℕ → Item → ℕ
behind_item n (items.Variables v) = n
behind_item n (items.Import i) = n
behind_item n (items.Export e) = n
behind_item n (items.Function f) = n + 1
behind_item n (items.Task t) = n + 1
behind_item n (items.Initial k s) = n
behind_item n (items.Instance m i) = n

-- behind all of them
abbrev pub behind_items : ℕ → List Item → ℕ
behind_items n [] = n
behind_items n (x ∷ xs) = behind_items (behind_item n x) xs

-- the number of the first subroutine of this name, where the first of all has this one
abbrev pub subroutine_named : List ℕ → ℕ → List Item → Option ℕ
subroutine_named name n [] = None
subroutine_named name n (x ∷ xs) = if is_named name x then Some n else subroutine_named name (behind_item n x) xs

-- an export of a module of these items, whose first subroutine has this number
abbrev pub export_of : ℕ → ℕ → List Item → Tree → Export
export_of file n xs e = record {
  file = file;
  token = e.name.token;
  c_name = c_name_of e.c_name e.name;
  is_task = e.task;
  subroutine = subroutine_named e.name.bytes n xs;
}

-- the export that an item of the module is, if it is one
abbrev pub item_exports : ℕ → ℕ → List Item → Item → List Export
item_exports file n xs (items.Variables v) = []
item_exports file n xs (items.Import i) = []
item_exports file n xs (items.Export e) = export_of file n xs e ∷ []
item_exports file n xs (items.Function f) = []
item_exports file n xs (items.Task t) = []
item_exports file n xs (items.Initial k s) = []
item_exports file n xs (items.Instance m i) = []

abbrev pub module_exports : ℕ → InFile → List Export
module_exports n m = flat_map (item_exports m.file n m.tree.items) m.tree.items

-- the exports of modules, of which the first subroutine has this number
abbrev pub exports_from : ℕ → List InFile → List Export
exports_from n [] = []
exports_from n (m ∷ ms) = module_exports n m ++ exports_from (behind_items n m.tree.items) ms

-- the exports of a design, in the order of files and text
abbrev pub exports_in : List SvFile → List Export
exports_in files = exports_from 0 (modules_in files)
