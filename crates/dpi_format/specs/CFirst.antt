-- The piece that the bytes of a format of printf begin with, if any does.
use Rattle.std.specs.Prelude.{ℕ, ◌+◌, ◌-◌, ◌*◌, Bool, false, ◌==◌, ◌&&◌, nat_le, if◌then◌else◌, Option, Some, None}
use Rattle.std.specs.Prelude.{List, [], ◌∷◌, length, drop}
use Rattle.dpi_format.specs.declared.c_piece.CLetter.{CLetter}
use Rattle.dpi_format.specs.declared.c_piece.CLetter.TheVariants.{D, U, X}
use Rattle.dpi_format.specs.declared.c_piece.CPiece.{CPiece}
use Rattle.dpi_format.specs.declared.c_piece.CPiece.TheVariants.{Byte, Percent, Text, Character, Number}
use Rattle.dpi_format.specs.CFormat.{zero_spelled, width_spelled, long_spelled}

-- the letter that the byte is
abbrev pub letter_of : ℕ → Option CLetter
letter_of b = if b == 100 then Some D else (if b == 117 then Some U else (if b == 120 then Some X else None))

-- the letter that stands first
abbrev pub first_letter : List ℕ → Option CLetter
first_letter [] = None
first_letter (b ∷ more) = letter_of b

-- an `l` stands first
abbrev pub has_l : List ℕ → Bool
has_l [] = false
has_l (b ∷ more) = b == 108

-- `ll` stands first
abbrev pub has_long : List ℕ → Bool
has_long [] = false
has_long (b ∷ more) = b == 108 && has_l more

-- a 0 stands first
abbrev pub has_zero : List ℕ → Bool
has_zero [] = false
has_zero (b ∷ more) = b == 48

-- the width whose first digit is d, with a second digit if one stands first in the bytes
abbrev pub width_by : ℕ → List ℕ → ℕ
width_by d [] = d
width_by d (b ∷ more) = if nat_le 48 b && nat_le b 57 then d * 10 + (b - 48) else d

-- the width that stands first, of at most two digits
abbrev pub width_of : List ℕ → Option ℕ
width_of [] = None
width_of (b ∷ more) = if nat_le 49 b && nat_le b 57 then Some (width_by (b - 48) more) else None

-- a number with that letter, if there is one
abbrev pub number_by : Bool → Option ℕ → Bool → Option CLetter → Option CPiece
number_by zero width long None = None
number_by zero width long (Some letter) =
    Some (Number (record { zero = zero; width = width; long = long; letter = letter }))

-- a number of which flag and width stand before the bytes
abbrev pub behind_width : Bool → Option ℕ → List ℕ → Option CPiece
behind_width zero width bytes =
    number_by zero width (has_long bytes) (first_letter (drop (length (long_spelled (has_long bytes))) bytes))

-- a number of which the flag stands before the bytes
abbrev pub behind_zero : Bool → List ℕ → Option CPiece
behind_zero zero bytes =
    behind_width zero (width_of bytes) (drop (length (width_spelled (width_of bytes))) bytes)

-- a number whose percent sign stands before the bytes
abbrev pub number_of : List ℕ → Option CPiece
number_of bytes = behind_zero (has_zero bytes) (drop (length (zero_spelled (has_zero bytes))) bytes)

-- the piece whose percent sign stands before the bytes
abbrev pub behind_percent : List ℕ → Option CPiece
behind_percent [] = None
behind_percent (b ∷ more) =
    if b == 37
    then Some Percent
    else (if b == 115 then Some Text else (if b == 99 then Some Character else number_of (b ∷ more)))

-- the piece that the bytes begin with
abbrev pub first_of : List ℕ → Option CPiece
first_of [] = None
first_of (b ∷ more) = if b == 37 then behind_percent more else Some (Byte b)
