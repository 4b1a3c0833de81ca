-- One bit of four states, and the operators on bits.
use Rattle.std.specs.Prelude.{Bool, true, false}
use Rattle.dpi_bits.specs.declared.bit.Bit.{Bit}
use Rattle.dpi_bits.specs.declared.bit.Bit.TheVariants.{Zero, One, Z, X}
use Rattle.dpi_bits.specs.declared.word.Table.{Table}
use Rattle.dpi_bits.specs.declared.word.Table.TheVariants.{And, Or, Xor, Merge}

-- the bit is x or z
abbrev pub is_unknown : Bit → Bool
is_unknown Zero = false
is_unknown One = false
is_unknown Z = true
is_unknown X = true

-- `~` of a bit
abbrev pub not_bit : Bit → Bit
not_bit Zero = One
not_bit One = Zero
not_bit Z = X
not_bit X = X

-- `&`: 0 where either bit is 0, 1 where both are 1, else x
abbrev pub and_bit : Bit → Bit → Bit
and_bit Zero _ = Zero
and_bit _ Zero = Zero
and_bit One One = One
and_bit _ _ = X

-- `|`: 1 where either bit is 1, 0 where both are 0, else x
abbrev pub or_bit : Bit → Bit → Bit
or_bit One _ = One
or_bit _ One = One
or_bit Zero Zero = Zero
or_bit _ _ = X

-- `^`: x where a bit is unknown, else 1 where the bits differ
abbrev pub xor_bit : Bit → Bit → Bit
xor_bit Zero Zero = Zero
xor_bit One One = Zero
xor_bit Zero One = One
xor_bit One Zero = One
xor_bit _ _ = X

-- `?:` under an unknown condition: the bit that both branches have, where it is known, else x
abbrev pub merge_bit : Bit → Bit → Bit
merge_bit Zero Zero = Zero
merge_bit One One = One
merge_bit _ _ = X

-- the operator of a table
abbrev pub table_bit : Table → Bit → Bit → Bit
table_bit And = and_bit
table_bit Or = or_bit
table_bit Xor = xor_bit
table_bit Merge = merge_bit
