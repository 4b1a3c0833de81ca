use Rattle.std.proofs.Common.{◌≡◌, ◌++◌, map, drop}
use Rattle.sv_instances.specs.Modules as sv
use Rattle.dpi_links.specs.Exports.{told, exports_in}
use Rattle.dpi_links.proofs.exports.exports_of.Given as goal

abbrev pub invariant-loop-placed : goal.invariant-loop-placed
invariant-loop-placed l =
    map (map told) l.table ++ exports_in (map sv.told (drop l.placed-index l.modules)) ≡ exports_in (map sv.told l.modules)
