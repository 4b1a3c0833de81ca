use Rattle.std.proofs.Common.{◌≡◌, ℕ, ◌*◌, ◌<◌, ◌≤◌}
use Rattle.dpi_bits.specs.Words.{held}
use Rattle.dpi_bits.specs.Layout.{overlaid}
use Rattle.dpi_bits.proofs.window.overlay.Given as goal

abbrev pub invariant-loop-j : goal.invariant-loop-j
invariant-loop-j l = record {
  written : (i : ℕ) → i < 32 * l.j → held l.words i ≡ overlaid l.from l.bits l.window.start l.window.back l.width i (held l.fn.words i);
  rest : (i : ℕ) → 32 * l.j ≤ i → held l.words i ≡ held l.fn.words i;
}
