use Rattle.std.proofs.Common.{◌≡◌, length}
use Rattle.sv_instances.proofs.Reaching.{IsReached}
use Rattle.sv_instances.proofs.cycles.mark_reached.Given as goal

abbrev pub invariant-loop-turn : goal.invariant-loop-turn
invariant-loop-turn l = record {
  long : length l.marks ≡ length l.children;
  layers : IsReached l.children l.from l._turn l.marks l.layer.items;
}
