-- Operators on all bits of a list.
use Rattle.std.specs.Prelude.{Bool, true, ◌&&◌, not, ◌-◌, List, [], ◌∷◌, map, length, replicate, slice_index_or}
use Rattle.std.specs.List.{range_with_len}
use Rattle.dpi_bits.specs.declared.bit.Bit.{Bit}
use Rattle.dpi_bits.specs.declared.bit.Bit.TheVariants.{Zero, One, Z, X}
use Rattle.dpi_bits.specs.declared.word.Word4.{Word4}
use Rattle.dpi_bits.specs.Bits.{is_unknown, and_bit, or_bit, xor_bit}
use Rattle.dpi_bits.specs.Words.{bit_in}

-- no bit is x or z
abbrev pub known : List Bit → Bool
known [] = true
known (b ∷ bs) = not (is_unknown b) && known bs

-- a bitwise operator on two lists
abbrev pub pairwise : (Bit → Bit → Bit) → List Bit → List Bit → List Bit
pairwise op [] _ = []
pairwise op (_ ∷ _) [] = []
pairwise op (a ∷ more) (b ∷ bs) = op a b ∷ pairwise op more bs

-- `&` of all bits
abbrev pub reduce_and : List Bit → Bit
reduce_and [] = One
reduce_and (b ∷ bs) = and_bit b (reduce_and bs)

-- `|` of all bits
abbrev pub reduce_or : List Bit → Bit
reduce_or [] = Zero
reduce_or (b ∷ bs) = or_bit b (reduce_or bs)

-- `^` of all bits
abbrev pub reduce_xor : List Bit → Bit
reduce_xor [] = Zero
reduce_xor (b ∷ bs) = xor_bit b (reduce_xor bs)

-- as many x
abbrev pub all_x : List Bit → List Bit
all_x bits = replicate (length bits) X

-- the top bit
abbrev pub top : List Bit → Bit
top bits = slice_index_or bits (length bits - 1) X

-- x and z turned into 0
abbrev pub two_state : Bit → Bit
two_state Zero = Zero
two_state One = One
two_state Z = Zero
two_state X = Zero

-- the 32 bits of a word
unfoldable pub word_bits : Word4 → List Bit
word_bits word = map (bit_in word) (range_with_len 0 32)
