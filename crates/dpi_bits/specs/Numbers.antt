-- The numbers that lists of bits write in base two.
use Rattle.std.specs.Prelude.{ℕ, ◌+◌, ◌*◌, List, [], ◌∷◌, map, take, drop}
use Rattle.std.specs.Int.{bit_at}
use Rattle.std.specs.List.{range_with_len}
use Rattle.dpi_bits.specs.declared.bit.Bit.{Bit}
use Rattle.dpi_bits.specs.declared.bit.Bit.TheVariants.{Zero, One, Z, X}
use Rattle.dpi_bits.specs.declared.word.Word4.{Word4}
use Rattle.dpi_bits.specs.Words.{aval, bval, bit_of}

-- the number that a list writes, where each bit stands for a digit
abbrev pub number_by : (Bit → ℕ) → List Bit → ℕ
number_by digit [] = 0
number_by digit (b ∷ bs) = digit b + 2 * number_by digit bs

-- 1 for a 1, else 0
abbrev pub digit : Bit → ℕ
digit Zero = 0
digit One = 1
digit Z = 0
digit X = 0

-- the number of a list of known bits
abbrev pub number : List Bit → ℕ
number bits = number_by digit bits

-- so many of the lowest digits of a number as bits
abbrev pub binary : ℕ → ℕ → List Bit
binary width n = map (λ i. bit_of (bit_at n i) 0) (range_with_len 0 width)

-- word j of a list: its bits from 32 j on, at most 32 of them (1800 H.10.1.2)
abbrev pub word_of : List Bit → ℕ → Word4
word_of bits j = record {
  aval = number_by aval (take 32 (drop (32 * j) bits));
  bval = number_by bval (take 32 (drop (32 * j) bits));
}
