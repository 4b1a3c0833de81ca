-- Laws on lists of bits.
use Rattle.std.specs.Prelude.{◌≡◌, ◌↔◌, ℕ, ◌+◌, ◌*◌, ◌<◌, ◌≤◌, Bool, pos, List, ◌++◌, length, take}
use Rattle.dpi_bits.specs.declared.bit.Bit.{Bit}
use Rattle.dpi_bits.specs.Numbers.{word_of}
use Rattle.dpi_bits.specs.Parts.{part, resized}

-- a part of a concatenation that lies in its low half is that part of the low half
abbrev pub PartOfLowHalf : Type 0
PartOfLowHalf =
    (high low : List Bit) (from width : ℕ) → from + width ≤ length low
    → part (pos from) width (low ++ high) ≡ part (pos from) width low

-- a part of a concatenation from a bit of its high half on is that part of the high half
abbrev pub PartOfHighHalf : Type 0
PartOfHighHalf =
    (high low : List Bit) (from width : ℕ)
    → part (pos (length low + from)) width (low ++ high) ≡ part (pos from) width high

-- resized to fewer bits and back, a list keeps those bits
abbrev pub ResizedAndBack : Type 0
ResizedAndBack =
    (bits : List Bit) (fewer : ℕ) (signed back : Bool) → fewer ≤ length bits
    → take fewer (resized (length bits) back (resized fewer signed bits)) ≡ take fewer bits

-- lists of one length are equal exactly where all their words are
abbrev pub EqualByWords : Type 0
EqualByWords =
    (a b : List Bit) → length a ≡ length b
    → (a ≡ b) ↔ ((j : ℕ) → 32 * j < length a → word_of a j ≡ word_of b j)
