use Rattle.std.proofs.Common.{◌≡◌, ℕ, ◌*◌, ◌<◌, ◌≤◌}
use Rattle.dpi_bits.specs.Lists.{two_state}
use Rattle.dpi_bits.specs.Words.{held}
use Rattle.dpi_bits.proofs.word.clear_unknown.Given as goal

abbrev pub invariant-loop-j : goal.invariant-loop-j
invariant-loop-j l = record {
  written : (i : ℕ) → i < 32 * l.j → held l.words i ≡ two_state (held l.fn.words i);
  rest : (i : ℕ) → 32 * l.j ≤ i → held l.words i ≡ held l.fn.words i;
}
