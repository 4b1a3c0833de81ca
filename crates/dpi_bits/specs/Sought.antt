-- Kinds of bits that are searched for.
use Rattle.std.specs.Prelude.{Bool, true, false, not, ◌||◌}
use Rattle.dpi_bits.specs.declared.bit.Bit.{Bit}
use Rattle.dpi_bits.specs.declared.bit.Bit.TheVariants.{Zero, One, Z, X}
use Rattle.dpi_bits.specs.declared.sought.Sought.{Sought}
use Rattle.dpi_bits.specs.declared.sought.Sought.TheVariants.{Unknown, Opposed, Unlike, Zero as OfZero, One as OfOne}
use Rattle.dpi_bits.specs.Bits.{is_unknown}

-- the bit is 0
abbrev pub is_zero : Bit → Bool
is_zero Zero = true
is_zero One = false
is_zero Z = false
is_zero X = false

-- the bit is 1
abbrev pub is_one : Bit → Bool
is_one Zero = false
is_one One = true
is_one Z = false
is_one X = false

-- both bits have one state
abbrev pub same_state : Bit → Bit → Bool
same_state Zero b = is_zero b
same_state One b = is_one b
same_state Z Z = true
same_state X X = true
same_state _ _ = false

-- both bits are known, and they differ
abbrev pub are_opposed : Bit → Bit → Bool
are_opposed Zero b = is_one b
are_opposed One b = is_zero b
are_opposed _ _ = false

-- two bits at one place are what is sought
abbrev pub is_sought : Sought → Bit → Bit → Bool
is_sought OfZero a _ = is_zero a
is_sought OfOne a _ = is_one a
is_sought Unknown a b = is_unknown a || is_unknown b
is_sought Opposed a b = are_opposed a b
is_sought Unlike a b = not (same_state a b)
