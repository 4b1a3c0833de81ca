-- The instances that a module's items make.
use Rattle.std.specs.Prelude.{ℕ, Option, Some, None, List, [], ◌∷◌, flat_map, map}
use Rattle.dpi_rules.specs.declared.violation.Violation.{Violation}
use Rattle.dpi_rules.specs.Order.{violation}
use Rattle.sv_tree.specs.declared.leaves.Name.{Name}
use Rattle.sv_tree.specs.declared.items.Item.{Item}
use Rattle.sv_tree.specs.declared.items.Item.TheVariants as items
use Rattle.sv_instances.specs.declared.preorder.Child.{Child}
use Rattle.sv_instances.specs.Modules.{InFile}

-- an instance of an unknown module breaks rule 2 at the module's name
abbrev pub unknown : ℕ → Name → Option ℕ → List Violation
unknown file n None = violation file n.token 2 ∷ []
unknown file n (Some number) = []

-- the same of an item, where names mean the modules of these numbers
abbrev pub item_unknown : (List ℕ → Option ℕ) → ℕ → Item → List Violation
item_unknown numbers file (items.Variables v) = []
item_unknown numbers file (items.Import i) = []
item_unknown numbers file (items.Export x) = []
item_unknown numbers file (items.Function f) = []
item_unknown numbers file (items.Task t) = []
item_unknown numbers file (items.Initial k s) = []
item_unknown numbers file (items.Instance m n) = unknown file m (numbers m.bytes)

-- the instances of unknown modules in a module
abbrev pub module_unknown : (List ℕ → Option ℕ) → InFile → List Violation
module_unknown numbers m = flat_map (item_unknown numbers m.file) m.tree.items

-- the instances of unknown modules in all modules
abbrev pub all_unknown : (List ℕ → Option ℕ) → List InFile → List Violation
all_unknown numbers ms = flat_map (module_unknown numbers) ms

-- what an instance of the module of this number is, if there is one
abbrev pub child : ℕ → Name → Name → Option ℕ → List Child
child file m n None = []
child file m n (Some number) = record { module_number = number; file = file; token = m.token; name = n.bytes } ∷ []

-- the same of an item
abbrev pub item_children : (List ℕ → Option ℕ) → ℕ → Item → List Child
item_children numbers file (items.Variables v) = []
item_children numbers file (items.Import i) = []
item_children numbers file (items.Export x) = []
item_children numbers file (items.Function f) = []
item_children numbers file (items.Task t) = []
item_children numbers file (items.Initial k s) = []
item_children numbers file (items.Instance m n) = child file m n (numbers m.bytes)

-- what a module instantiates, in text order
abbrev pub module_children : (List ℕ → Option ℕ) → InFile → List Child
module_children numbers m = flat_map (item_children numbers m.file) m.tree.items

-- what each module instantiates
abbrev pub all_children : (List ℕ → Option ℕ) → List InFile → List (List Child)
all_children numbers ms = map (module_children numbers) ms
