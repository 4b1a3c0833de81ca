use Rattle.std.proofs.Common.{◌≡◌, ◌+◌, ◌-◌, length}
use Rattle.dpi_table.specs.Tables.{held}
use Rattle.dpi_table.proofs.table.grow.Given as goal

abbrev pub invariant-loop-cells : goal.invariant-loop-cells
invariant-loop-cells g l = held l.cells.items ≡ held l.initial.cells.items

abbrev pub decreases-loop-cells : goal.decreases-loop-cells
decreases-loop-cells g l = l.token + 1 - length l.cells.items
