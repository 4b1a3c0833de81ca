use Rattle.std.proofs.lemmas.Nat.Bits.{bit_at_or, bit_at-lt}
use Rattle.dpi_bits.proofs.Digits.{or_digits}
use Rattle.dpi_bits.proofs.word.or_words.Goals as goal

pub returns : goal.returns
returns c i h =
    simp (bit_at_or, c.without-3.ensures i h, c.without.ensures i h, c.without-2.ensures i h) (or_digits _ _ _ _ (bit_at-lt _ i) (bit_at-lt _ i) (bit_at-lt _ i) (bit_at-lt _ i))
