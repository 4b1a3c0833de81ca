use Rattle.std.proofs.Common.{◌≡◌, ◌++◌, map, drop}
use Rattle.sv_instances.specs.Modules.{told}
use Rattle.sv_instances.specs.Tops.{tops, tops_from}
use Rattle.sv_instances.proofs.tops.tops_of.Given as goal

abbrev pub invariant-loop-placed : goal.invariant-loop-placed
invariant-loop-placed l = record {
  counted : l.number ≡ l.placed-index;
  listed : l.list ++ tops_from l.children l.number (map told (drop l.placed-index l.modules)) ≡ tops l.children (map told l.modules);
}
