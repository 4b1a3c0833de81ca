use Rattle.std.proofs.Common.{ap, ◌∙◌}
use Rattle.dpi_table.specs.Tables.{held}
use Rattle.dpi_table.proofs.Cells.{push_none}
use Rattle.dpi_table.proofs.table.grow.Goals as goal

pub loop-cells-preserved : goal.loop-cells-preserved
loop-cells-preserved g c = ap held c.in_ok-push.ensures.items ∙ push_none c.loop-cells.cells.items ∙ c.loop-cells.invariant
