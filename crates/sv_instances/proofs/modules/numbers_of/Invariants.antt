use Rattle.std.proofs.Common.{◌≡◌, map, take, drop}
use Rattle.sv_instances.specs.Modules.{told, IsNumbering}
use Rattle.sv_instances.proofs.modules.numbers_of.Given as goal

abbrev pub invariant-loop-placed : goal.invariant-loop-placed
invariant-loop-placed l = record {
  counted : l.number ≡ l.placed-index;
  numbering : IsNumbering (map told l.modules) (map told (take l.placed-index l.modules)) (map told (drop l.placed-index l.modules)) l.initial.found l.numbers l.found;
}
