-- Whole numbers by their sign and size.
use Rattle.std.specs.Prelude.{◌≡◌, ◌≢◌, ◌≤◌, ◌&&◌, List, ℕ, Bool, true, false, ℤ, pos, neg_ℤ}
use Rattle.dpi_bits.specs.declared.bit.Bit.{Bit}
use Rattle.dpi_bits.specs.declared.signed.Signed.{Signed}
use Rattle.dpi_bits.specs.Arithmetic.{value}
use Rattle.dpi_bits.specs.Lists.{known}
use Rattle.dpi_bits.specs.Numbers.{number}

-- the number of a sign and a size
abbrev pub signed_of : Bool → ℕ → ℤ
signed_of false size = pos size
signed_of true size = neg_ℤ (pos size)

-- the whole number
abbrev pub whole : Signed → ℤ
whole s = signed_of s.negative s.size

-- a negative number is not 0
abbrev pub IsProper : Signed → Type 0
IsProper s = s.negative ≡ true → 1 ≤ s.size

-- two lists that give no quotient
abbrev pub IsUndivided : List Bit → List Bit → Type 0
IsUndivided a b = known a && known b ≡ true → number b ≡ 0

-- two lists that give a quotient, and their whole numbers
abbrev pub IsDivision : Bool → List Bit → List Bit → Signed → Signed → Type 0
IsDivision signed a b m n =
    (known a && known b ≡ true) × (number b ≢ 0) × (whole m ≡ value signed a)
    × (whole n ≡ value signed b) × IsProper m × IsProper n × (n.size ≢ 0)
