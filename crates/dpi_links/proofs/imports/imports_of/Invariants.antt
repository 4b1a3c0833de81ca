use Rattle.std.proofs.Common.{◌≡◌, ◌++◌, map, flat_map, drop}
use Rattle.sv_instances.specs.Modules as sv
use Rattle.dpi_links.specs.Imports.{told, module_imports}
use Rattle.dpi_links.proofs.imports.imports_of.Given as goal

abbrev pub invariant-loop-placed : goal.invariant-loop-placed
invariant-loop-placed l =
    map told l.list ++ flat_map module_imports (map sv.told (drop l.placed-index l.modules)) ≡ flat_map module_imports (map sv.told l.modules)
