use Rattle.std.proofs.Common.{◌≡◌, ℕ, ◌-◌, ◌<◌, min, w32, arith, ◌∙◌, ap}
use Rattle.std.proofs.lemmas.Nat.Bits.{bit_at_and, bit_at_not, bit_at-lt}
use Rattle.dpi_bits.proofs.word.without.Goals as goal

least : (p q : ℕ) → p < 2 → q < 2 → min p (1 - q) ≡ p - q
least p q hp hq = omega arith

pub returns : goal.returns
returns c i h =
    rw bit_at_and (ap (min _) (bit_at_not w32 c.args.y i c.ranges.y.fits h) ∙ least _ _ (bit_at-lt _ i) (bit_at-lt _ i))
