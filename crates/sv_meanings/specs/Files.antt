-- What files tell.
use Rattle.std.specs.Prelude.{ℕ, ◌++◌, flat_map}
use Rattle.sv_tree.specs.declared.items.Module.{Module}
use Rattle.sv_tree.specs.declared.items.SvFile.{SvFile}
use Rattle.sv_instances.specs.Modules.{in_file}
use Rattle.sv_inside.specs.Seen.{in_module}
use Rattle.sv_facts.specs.declared.facts.Meant.TheVariants as meanings
use Rattle.sv_meanings.specs.Places.{Facts}
use Rattle.sv_meanings.specs.Declarations.{means}
use Rattle.sv_meanings.specs.Items.{item_facts}

-- a module of the file of this number: its name, and its items in text order
abbrev pub module_facts : ℕ → Module → Facts
module_facts number m =
    means m.name meanings.Module ++ flat_map (item_facts (in_module (in_file number m))) m.items

-- all facts of the file of this number
abbrev pub file_facts : ℕ → SvFile → Facts
file_facts number file = flat_map (module_facts number) file.modules
