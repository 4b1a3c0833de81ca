use Rattle.std.proofs.Common.{◌≡◌, ◌*◌}
use Rattle.dpi_bits.specs.Layout.{digits_below}
use Rattle.dpi_bits.proofs.reduce.count_ones.Given as goal

abbrev pub invariant-loop-j : goal.invariant-loop-j
invariant-loop-j l = l.count ≡ digits_below l.words (32 * l.j)
