-- The piece that the bytes of a format of $display begin with, if any does.
use Rattle.std.specs.Prelude.{ℕ, Bool, true, false, ◌==◌, if◌then◌else◌, Option, Some, None, List, [], ◌∷◌}
use Rattle.dpi_format.specs.declared.sv_piece.SvLetter.{SvLetter}
use Rattle.dpi_format.specs.declared.sv_piece.SvLetter.TheVariants.{B, D, H, X}
use Rattle.dpi_format.specs.declared.sv_piece.SvPiece.{SvPiece}
use Rattle.dpi_format.specs.declared.sv_piece.SvPiece.TheVariants.{Byte, Percent, Text, Number}

-- the letter that the byte is
abbrev pub letter_of : ℕ → Option SvLetter
letter_of b =
    if b == 98
    then Some B
    else (if b == 100 then Some D else (if b == 104 then Some H else (if b == 120 then Some X else None)))

-- a number with that letter, if there is one
abbrev pub number_by : Bool → Option SvLetter → Option SvPiece
number_by zero None = None
number_by zero (Some letter) = Some (Number (record { zero = zero; letter = letter }))

-- a number whose letter stands first
abbrev pub number_of : Bool → List ℕ → Option SvPiece
number_of zero [] = None
number_of zero (b ∷ more) = number_by zero (letter_of b)

-- the piece whose percent sign stands before the bytes
abbrev pub behind_percent : List ℕ → Option SvPiece
behind_percent [] = None
behind_percent (b ∷ more) =
    if b == 37
    then Some Percent
    else (if b == 115 then Some Text else (if b == 48 then number_of true more else number_by false (letter_of b)))

-- the piece that the bytes begin with
abbrev pub first_of : List ℕ → Option SvPiece
first_of [] = None
first_of (b ∷ more) = if b == 37 then behind_percent more else Some (Byte b)
