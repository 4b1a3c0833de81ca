use Rattle.sv_instances.specs.Cycles.{AreFree}
use Rattle.sv_instances.proofs.cycles.settle_all.Given as goal

abbrev pub invariant-loop-number : goal.invariant-loop-number
invariant-loop-number l = AreFree l.children l.marks

abbrev pub invariant-loop-number-2 : goal.invariant-loop-number-2
invariant-loop-number-2 l = AreFree l.children l.marks
