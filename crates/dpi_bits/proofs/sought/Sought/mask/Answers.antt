use Rattle.std.proofs.lemmas.Nat.Bits.{bit_at_or, bit_at_xor, bit_at_ones, bit_at-lt}
use Rattle.dpi_bits.proofs.SoughtDigits.{zero_digits, unknown_digits, opposed_digits, unlike_digits}
use Rattle.dpi_bits.proofs.sought.Sought.mask.Goals as goal

pub returns-in-Zero : goal.returns-in-Zero
returns-in-Zero c i h =
    simp (c.in-Zero.is, c.without.ensures i h, bit_at_ones 32 i h, bit_at_or) (zero_digits _ _ _ _ (bit_at-lt _ i) (bit_at-lt _ i) (bit_at-lt c.args.b.aval i) (bit_at-lt c.args.b.bval i))

pub returns-in-Unknown : goal.returns-in-Unknown
returns-in-Unknown c i h =
    simp (c.in-Unknown.is, bit_at_or) (unknown_digits _ _ _ _ (bit_at-lt c.args.a.aval i) (bit_at-lt _ i) (bit_at-lt c.args.b.aval i) (bit_at-lt _ i))

pub returns-in-Opposed : goal.returns-in-Opposed
returns-in-Opposed c i h =
    simp (c.in-Opposed.is, c.without-in-Opposed.ensures i h, bit_at_or, bit_at_xor) (opposed_digits _ _ _ _ (bit_at-lt _ i) (bit_at-lt _ i) (bit_at-lt _ i) (bit_at-lt _ i))

pub returns-in-Unlike : goal.returns-in-Unlike
returns-in-Unlike c i h =
    simp (c.in-Unlike.is, bit_at_or, bit_at_xor) (unlike_digits _ _ _ _ (bit_at-lt _ i) (bit_at-lt _ i) (bit_at-lt _ i) (bit_at-lt _ i))
