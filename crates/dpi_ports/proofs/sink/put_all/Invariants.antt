use Rattle.std.proofs.Common.{length, ◌-◌, ◌≤◌, take}
use Rattle.dpi_ports.specs.Told.{Takes}
use Rattle.dpi_ports.proofs.sink.put_all.Given as goal

abbrev pub invariant-loop-taken : goal.invariant-loop-taken
invariant-loop-taken g l = record {
  within : l.taken ≤ length l.piece;
  takes : Takes (g.K.Sink.told l.fn.sink) (g.K.Sink.told l.sink) (take l.taken l.piece);
  later : g.K.Sink.faults l.fn.sink ≤ g.K.Sink.faults l.sink;
}

abbrev pub decreases-loop-taken : goal.decreases-loop-taken
decreases-loop-taken g l = length l.piece - l.taken
