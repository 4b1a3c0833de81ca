-- How two numbers of 32 digits in base two stand for 32 bits (1800 H.10.1.2).
use Rattle.std.specs.Prelude.{ℕ, zero, suc, ◌/◌, ◌%◌, List, map, slice_index_or}
use Rattle.std.specs.List.{range_with_len}
use Rattle.std.specs.Int.{bit_at}
use Rattle.dpi_bits.specs.declared.bit.Bit.{Bit}
use Rattle.dpi_bits.specs.declared.bit.Bit.TheVariants.{Zero, One, Z, X}
use Rattle.dpi_bits.specs.declared.word.Word4.{Word4}

-- the digit that stands for a bit in the first number
abbrev pub aval : Bit → ℕ
aval Zero = 0
aval One = 1
aval Z = 0
aval X = 1

-- the digit that stands for a bit in the second number
abbrev pub bval : Bit → ℕ
bval Zero = 0
bval One = 0
bval Z = 1
bval X = 1

-- the bit for which two digits stand
abbrev pub bit_of : ℕ → ℕ → Bit
bit_of zero zero = Zero
bit_of (suc _) zero = One
bit_of zero (suc _) = Z
bit_of (suc _) (suc _) = X

-- the bit at a place of a word
abbrev pub bit_in : Word4 → ℕ → Bit
bit_in word i = bit_of (bit_at word.aval i) (bit_at word.bval i)

-- a word of 32 bits 0
abbrev pub blank : Word4
blank = record { aval = 0; bval = 0 }

-- bit i of a list of words, the lowest first; bits past the words are 0
abbrev pub held : List Word4 → ℕ → Bit
held words i = bit_in (slice_index_or words (i / 32) blank) (i % 32)

-- the list of the first bits that words hold, as many as the width
unfoldable pub bits_of : ℕ → List Word4 → List Bit
bits_of width words = map (held words) (range_with_len 0 width)
