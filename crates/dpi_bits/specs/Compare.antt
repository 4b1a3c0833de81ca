-- Comparisons of lists of bits.
use Rattle.std.specs.Prelude.{List}
use Rattle.dpi_bits.specs.declared.bit.Bit.{Bit}
use Rattle.dpi_bits.specs.declared.bit.Bit.TheVariants.{Zero, One, X}
use Rattle.dpi_bits.specs.Lists.{pairwise, reduce_and}

-- `==` of two bits: x where either is unknown
abbrev pub equal_bit : Bit → Bit → Bit
equal_bit Zero Zero = One
equal_bit One One = One
equal_bit Zero One = Zero
equal_bit One Zero = Zero
equal_bit _ _ = X

-- `==`: 0 where two known bits differ, else x where a bit is unknown, else 1
abbrev pub equal : List Bit → List Bit → Bit
equal a b = reduce_and (pairwise equal_bit a b)
