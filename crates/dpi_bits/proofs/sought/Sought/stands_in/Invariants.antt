use Rattle.std.proofs.Common.{◌≡◌, ℕ, ◌*◌, ◌<◌, ◌≤◌, false}
use Rattle.dpi_bits.specs.Words.{held}
use Rattle.dpi_bits.specs.Sought.{is_sought}
use Rattle.dpi_bits.proofs.sought.Sought.stands_in.Given as goal

abbrev pub invariant-loop-j : goal.invariant-loop-j
invariant-loop-j l = (i : ℕ) → 32 * l.first ≤ i → i < 32 * l.j → i < l.width → is_sought l.self (held l.a i) (held l.b i) ≡ false
