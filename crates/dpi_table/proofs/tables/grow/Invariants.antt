use Rattle.std.proofs.Common.{◌≡◌, ◌+◌, ◌-◌, length}
use Rattle.dpi_table.specs.Files.{held_in}
use Rattle.dpi_table.proofs.tables.grow.Given as goal

abbrev pub invariant-loop-alloc : goal.invariant-loop-alloc
invariant-loop-alloc g l = held_in l.files.items ≡ held_in l.initial.files.items

abbrev pub decreases-loop-alloc : goal.decreases-loop-alloc
decreases-loop-alloc g l = l.file + 1 - length l.files.items
