-- Initial blocks and named blocks.
use Rattle.std.specs.Prelude.{ℕ, List, [], ◌∷◌, flat_map}
use Rattle.sv_tree.specs.declared.items.Item.{Item}
use Rattle.sv_tree.specs.declared.items.Item.TheVariants as items
use Rattle.sv_tree.specs.declared.items.SvFile.{SvFile}
use Rattle.sv_instances.specs.Modules.{InFile, modules_in}
use Rattle.sv_design.specs.declared.places.Place.{Place}
use Rattle.sv_design.specs.Blocks.{in_stmt}

-- an initial block, at its `initial`
abbrev pub item_initials : ℕ → Item → List Place
item_initials file (items.Variables v) = []
item_initials file (items.Import i) = []
item_initials file (items.Export e) = []
item_initials file (items.Function f) = []
item_initials file (items.Task t) = []
item_initials file (items.Initial k s) = record { file = file; token = k } ∷ []
item_initials file (items.Instance m n) = []

abbrev pub module_initials : InFile → List Place
module_initials m = flat_map (item_initials m.file) m.tree.items

-- the initial blocks of a design, in the order of files and text
abbrev pub initials_in : List SvFile → List Place
initials_in files = flat_map module_initials (modules_in files)

-- the named blocks of functions, tasks and initial blocks
abbrev pub item_blocks : ℕ → Item → List Place
item_blocks file (items.Variables v) = []
item_blocks file (items.Import i) = []
item_blocks file (items.Export e) = []
item_blocks file (items.Function f) = flat_map (in_stmt file) f.body.statements
item_blocks file (items.Task t) = flat_map (in_stmt file) t.body.statements
item_blocks file (items.Initial k s) = in_stmt file s
item_blocks file (items.Instance m n) = []

abbrev pub module_blocks : InFile → List Place
module_blocks m = flat_map (item_blocks m.file) m.tree.items

-- the named blocks of a design, in the order of files and text
abbrev pub blocks_in : List SvFile → List Place
blocks_in files = flat_map module_blocks (modules_in files)
