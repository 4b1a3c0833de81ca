use Rattle.std.proofs.Common.{sym}
use Rattle.std.proofs.lemmas.Nat.Bits.{bit_at_ones, bit_at-zero}
use Rattle.dpi_bits.proofs.word.Word4.filled.Goals as goal

pub returns-in-One : goal.returns-in-One
returns-in-One c i h = simp (bit_at_ones 32 i h, bit_at-zero i) (sym c.in-One.is)

pub returns-in-Z : goal.returns-in-Z
returns-in-Z c i h = simp (bit_at_ones 32 i h, bit_at-zero i) (sym c.in-Z.is)

pub returns-in-X : goal.returns-in-X
returns-in-X c i h = simp (bit_at_ones 32 i h) (sym c.in-X.is)
