-- Parts, extensions and shifts as operations on lists.
use Rattle.std.specs.Prelude.{ℕ, suc, ◌+◌, ◌-◌, ℤ, pos, negsuc, Bool, if◌then◌else◌, List, ◌++◌, length, take, drop, replicate}
use Rattle.dpi_bits.specs.declared.bit.Bit.{Bit}
use Rattle.dpi_bits.specs.declared.bit.Bit.TheVariants.{Zero, X}
use Rattle.dpi_bits.specs.Lists.{top}

-- the bits from `start` on of the list raised by `back` bits, the given one wherever it has none
unfoldable pub spread : List Bit → ℕ → ℕ → Bit → ℕ → List Bit
spread bits start back outside width =
    take width (drop start (replicate back outside ++ bits) ++ replicate width outside)

-- the bit that a list is extended with: the top bit of a signed list, else 0 (1800 11.8.4)
abbrev pub extension : Bool → List Bit → Bit
extension signed bits = if signed then top bits else Zero

-- the list cut or extended to the width
abbrev pub resized : ℕ → Bool → List Bit → List Bit
resized width signed bits = take width (bits ++ replicate width (extension signed bits))

-- so many bits from bit `low` on, x wherever the list has none
abbrev pub part : ℤ → ℕ → List Bit → List Bit
part (pos low) width bits = take width (drop low bits ++ replicate width X)
part (negsuc below) width bits = take width (replicate (suc below) X ++ bits ++ replicate width X)

-- the list with the bits of another in the place of its own from bit `low` on, as far as it goes
abbrev pub put : ℤ → List Bit → List Bit → List Bit
put (pos low) bits old = take (length old) (take low old ++ bits ++ drop (low + length bits) old)
put (negsuc below) bits old =
    take (length old) (drop (suc below) bits ++ drop (length bits - suc below) old)

-- raised by so many bits, with 0 below
abbrev pub shifted_left : ℕ → List Bit → List Bit
shifted_left by bits = take (length bits) (replicate by Zero ++ bits)

-- lowered by so many bits, with the filling above
abbrev pub shifted_right : ℕ → Bit → List Bit → List Bit
shifted_right by filling bits = take (length bits) (drop by bits ++ replicate (length bits) filling)
