use Rattle.std.proofs.Common.{◌≡◌, ◌++◌, drop, map}
use Rattle.std.specs.Prelude.{flat_map}
use Rattle.sv_instances.specs.Modules.{told}
use Rattle.sv_design.specs.Items.{module_declarations}
use Rattle.sv_design.proofs.items.add_modules.Given as goal

-- what is listed, and the modules left over
abbrev pub invariant-loop-placed : goal.invariant-loop-placed
invariant-loop-placed l =
    l.list.items ++ flat_map module_declarations (map told (drop l.placed-index l.modules)) ≡ l.initial.list.items ++ flat_map module_declarations (map told l.modules)
