use Rattle.std.proofs.Common.{◌≡◌, ◌++◌, drop, map}
use Rattle.sv_instances.specs.Modules.{told}
use Rattle.sv_design.specs.Exports.{exports_from}
use Rattle.sv_design.proofs.exports.add_module_exports.Given as goal

-- what is listed, and the modules left over
abbrev pub invariant-loop-placed : goal.invariant-loop-placed
invariant-loop-placed l =
    l.list.items ++ exports_from l.first (map told (drop l.placed-index l.modules)) ≡ l.initial.list.items ++ exports_from 0 (map told l.modules)
