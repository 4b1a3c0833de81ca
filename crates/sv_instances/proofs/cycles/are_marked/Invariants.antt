use Rattle.std.proofs.Common.{◌≡◌, drop}
use Rattle.sv_instances.specs.Cycles.{are_marked}
use Rattle.sv_instances.proofs.cycles.are_marked.Given as goal

abbrev pub invariant-loop-child : goal.invariant-loop-child
invariant-loop-child l = are_marked l.marks (drop l.child-index l.row) ≡ are_marked l.marks l.row
