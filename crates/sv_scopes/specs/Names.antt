-- The variables that modules declare.
use Rattle.std.specs.Prelude.{ℕ, Option, Some, None, List, [], ◌∷◌, flat_map, slice_get}
use Rattle.dpi_table.specs.Files.{FileValues}
use Rattle.dpi_table.specs.Firsts.{number_from}
use Rattle.sv_tree.specs.declared.leaves.Name.{Name}
use Rattle.sv_tree.specs.declared.statements.Declarator.{Declarator}
use Rattle.sv_tree.specs.declared.items.Item.{Item}
use Rattle.sv_tree.specs.declared.items.Item.TheVariants as items
use Rattle.sv_instances.specs.Modules.{InFile}
use Rattle.sv_design.specs.declared.declarations.Declaration.{Declaration}
use Rattle.sv_scopes.specs.declared.names.Named.{Named}

-- each token of each file with the position of the first declaration there, where the first of these has this one
abbrev pub numbers_from : ℕ → List Declaration → FileValues ℕ
numbers_from = number_from (λ (d : Declaration). d.file) (λ (d : Declaration). d.token)

-- the position of the first declaration there
abbrev pub numbers_in : List Declaration → FileValues ℕ
numbers_in ds = numbers_from 0 ds

-- a name that this declaration declares, which has this number
abbrev pub named : Name → ℕ → Option Declaration → List Named
named name n None = []
named name n (Some d) = record { declaration = n; name = name.bytes; kind = d.kind } ∷ []

-- the same by number; a name without a declaration is left out
abbrev pub numbered : List Declaration → Name → Option ℕ → List Named
numbered ds name None = []
numbered ds name (Some n) = named name n (slice_get ds n)

-- a variable that is declared in this file
abbrev pub declarator_names : List Declaration → FileValues ℕ → ℕ → Declarator → List Named
declarator_names ds numbers file d = numbered ds d.name (numbers file d.name.token)

-- the variables that an item declares
abbrev pub item_names : List Declaration → FileValues ℕ → ℕ → Item → List Named
item_names ds numbers file (items.Variables v) = flat_map (declarator_names ds numbers file) v.declarators
item_names ds numbers file (items.Import i) = []
item_names ds numbers file (items.Export e) = []
item_names ds numbers file (items.Function f) = []
item_names ds numbers file (items.Task t) = []
item_names ds numbers file (items.Initial k s) = []
item_names ds numbers file (items.Instance m n) = []

-- the variables of a module, in text order
abbrev pub module_names : List Declaration → FileValues ℕ → InFile → List Named
module_names ds numbers m = flat_map (item_names ds numbers m.file) m.tree.items
