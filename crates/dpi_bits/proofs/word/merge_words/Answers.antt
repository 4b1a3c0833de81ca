use Rattle.std.proofs.lemmas.Nat.Bits.{bit_at_and, bit_at_or, bit_at_xor, bit_at-lt}
use Rattle.dpi_bits.proofs.Digits.{merge_digits}
use Rattle.dpi_bits.proofs.word.merge_words.Goals as goal

pub returns : goal.returns
returns c i h =
    simp (bit_at_and, bit_at_or, bit_at_xor) (merge_digits _ _ _ _ (bit_at-lt _ i) (bit_at-lt _ i) (bit_at-lt _ i) (bit_at-lt _ i))
