use Rattle.std.proofs.Common.{◌≡◌, ℕ, ◌*◌, ◌<◌, ◌≤◌, length}
use Rattle.dpi_bits.specs.Words.{held}
use Rattle.dpi_bits.specs.Layout.{overlaid}
use Rattle.dpi_bits.proofs.window.gather.Given as goal

abbrev pub invariant-loop-j : goal.invariant-loop-j
invariant-loop-j l = record {
  room : l.count ≤ l.words.capacity;
  made : length l.words.items ≡ l.j;
  bits : (i : ℕ) → i < 32 * l.j → held l.words.items i ≡ overlaid l.from l.bits l.window.start l.window.back l.width i l.window.outside;
}
