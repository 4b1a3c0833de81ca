use Rattle.std.proofs.Common.{◌≡◌, ◌++◌, map, drop}
use Rattle.sv_instances.specs.Modules.{told, numbers_of}
use Rattle.sv_instances.specs.Instances.{all_children}
use Rattle.sv_instances.proofs.instances.all_children.Given as goal

abbrev pub invariant-loop-placed : goal.invariant-loop-placed
invariant-loop-placed l =
    let numbers = numbers_of l.numbers.numbers in
    l.table ++ all_children numbers (map told (drop l.placed-index l.modules)) ≡ all_children numbers (map told l.modules)
