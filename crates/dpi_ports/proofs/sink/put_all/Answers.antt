use Rattle.std.proofs.Common.{ℕ, length-drop, length-take, arith}
use Rattle.dpi_ports.proofs.Taken.{takes_next}
use Rattle.dpi_ports.proofs.sink.put_all.Goals as goal

pub loop-taken-preserved : goal.loop-taken-preserved
loop-taken-preserved g c = record {
  within = omega (arith, c.in_ok-taken.ensures.within, length-take {A = ℕ}, length-drop {A = ℕ});
  takes = takes_next _ _ _ _ _ _ c.loop-taken.invariant.takes c.in_ok-taken.ensures.ok;
  later = omega (arith, c.in_ok-taken.ensures.later);
}
