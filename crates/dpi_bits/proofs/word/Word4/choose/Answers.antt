use Rattle.std.proofs.Common.{◌≡◌, ℕ, ◌-◌, ◌<◌, min, max, arith}
use Rattle.std.proofs.lemmas.Nat.Bits.{bit_at_or, bit_at_and, bit_at-lt}
use Rattle.dpi_bits.specs.Words.{bit_of}
use Rattle.dpi_bits.proofs.word.Word4.choose.Goals as goal

inside : (p q : ℕ) → p < 2 → q < 2 → max (min p 1) (q - 1) ≡ p
inside p q hp hq = omega arith

outside : (p q : ℕ) → p < 2 → q < 2 → max (min p 0) (q - 0) ≡ q
outside p q hp hq = omega arith

same : (a b p q : ℕ) → a ≡ p → b ≡ q → bit_of a b ≡ bit_of p q
same a b p q e f = cc

pub returns-clause-inside : goal.returns-clause-inside
returns-clause-inside c i h e =
    simp (bit_at_or, bit_at_and, c.without.ensures i h, c.without-2.ensures i h, e) (same _ _ _ _ (inside _ _ (bit_at-lt _ i) (bit_at-lt _ i)) (inside _ _ (bit_at-lt _ i) (bit_at-lt _ i)))

pub returns-clause-outside : goal.returns-clause-outside
returns-clause-outside c i h e =
    simp (bit_at_or, bit_at_and, c.without.ensures i h, c.without-2.ensures i h, e) (same _ _ _ _ (outside _ _ (bit_at-lt _ i) (bit_at-lt _ i)) (outside _ _ (bit_at-lt _ i) (bit_at-lt _ i)))
