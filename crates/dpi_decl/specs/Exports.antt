-- Exports by scope and name in C.
use Rattle.std.specs.Prelude.{ℕ, if◌then◌else◌, Option, Some, None, option_and_then, List, [], ◌∷◌, map, flat_map, slice_get, slice_index_or}
use Rattle.std.specs.Str.{bytes_eq}
use Rattle.dpi_table.specs.Files.{FileValues}
use Rattle.dpi_table.specs.Firsts.{number_from}
use Rattle.dpi_items.specs.Names.{export_c_name}
use Rattle.sv_tree.specs.declared.items.Item.{Item}
use Rattle.sv_tree.specs.declared.items.Item.TheVariants as items
use Rattle.sv_tree.specs.declared.items.SvFile.{SvFile}
use Rattle.sv_instances.specs.Modules.{InFile, modules_in}
use Rattle.sv_design.specs.declared.exports.Export.{Export}
use Rattle.sv_design.specs.Exports.{exports_in}
use Rattle.sv_scopes.specs.declared.scopes.Scope.{Scope}
use Rattle.sv_scopes.specs.Scopes.{scopes_in}
use Rattle.dpi_decl.specs.declared.exports.ExportName.{ExportName}

-- each token of each file with the position of the first export there, where the first of these has this one
abbrev pub numbers_from : ℕ → List Export → FileValues ℕ
numbers_from = number_from (λ (x : Export). x.file) (λ (x : Export). x.token)

-- the position of the first export there
abbrev pub numbers_in : List Export → FileValues ℕ
numbers_in xs = numbers_from 0 xs

-- a name whose export has this number
abbrev pub export_name : List ℕ → Option ℕ → List ExportName
export_name name None = []
export_name name (Some n) = record { name = name; number = n } ∷ []

-- the name of an item of this file that is an export
abbrev pub item_names : FileValues ℕ → ℕ → Item → List ExportName
item_names numbers file (items.Variables v) = []
item_names numbers file (items.Import i) = []
item_names numbers file (items.Export x) = export_name (export_c_name x) (numbers file x.name.token)
item_names numbers file (items.Function f) = []
item_names numbers file (items.Task t) = []
item_names numbers file (items.Initial k s) = []
item_names numbers file (items.Instance m n) = []

-- the names that a module exports, in text order
abbrev pub module_names : FileValues ℕ → InFile → List ExportName
module_names numbers m = flat_map (item_names numbers m.file) m.tree.items

-- those of each module, where these are all exports
abbrev pub names_of : List InFile → List Export → List (List ExportName)
names_of ms xs = map (module_names (numbers_in xs)) ms

-- those of the module of this number
abbrev pub names_at : List (List ExportName) → ℕ → List ExportName
names_at table number = slice_index_or table number []

-- the number of the first export of this name
abbrev pub number_named : List ℕ → List ExportName → Option ℕ
number_named name [] = None
number_named name (x ∷ xs) = if bytes_eq x.name name then Some x.number else number_named name xs

-- the names that each module of a design exports
abbrev pub exported_names : List SvFile → List (List ExportName)
exported_names files = names_of (modules_in files) (exports_in files)

-- the export of this name in C of a scope's module, if it has one
abbrev pub module_export : List SvFile → List ℕ → Scope → Option ℕ
module_export files name s = number_named name (names_at (exported_names files) s.module_number)

-- the same by the number of the scope
abbrev pub export_in : List SvFile → ℕ → List ℕ → Option ℕ
export_in files scope name = option_and_then (module_export files name) (slice_get (scopes_in files) scope)
