use Rattle.std.proofs.Common.{◌≤◌}
use Rattle.dpi_shape.proofs.Elements.{Counts}
use Rattle.dpi_shape.proofs.dims.cells_within.Given as goal

abbrev pub invariant-loop-range : goal.invariant-loop-range
invariant-loop-range l = Counts l.cells l.each l.ranges l.range-index × (l.cells ≤ l.most)
