use Rattle.std.proofs.Common.{◌≡◌, ◌++◌, drop, map}
use Rattle.std.specs.Prelude.{flat_map}
use Rattle.sv_instances.specs.Modules.{told}
use Rattle.sv_design.specs.Imports.{module_imports}
use Rattle.sv_design.proofs.imports.add_module_imports.Given as goal

-- what is listed, and the modules left over
abbrev pub invariant-loop-placed : goal.invariant-loop-placed
invariant-loop-placed l =
    l.list.items ++ flat_map module_imports (map told (drop l.placed-index l.modules)) ≡ l.initial.list.items ++ flat_map module_imports (map told l.modules)
