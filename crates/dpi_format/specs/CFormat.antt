-- Formats of printf: their pieces, and how each is spelled (ISO C 7.21.6.1).
use Rattle.std.specs.Prelude.{◌≡◌, ◌≤◌, ℕ, Bool, true, false, ◌==◌, not, Option, Some, None, IfSome, List, [], ◌∷◌}
use Rattle.std.specs.Prelude.{◌++◌, codes, decimal}
use Rattle.std.specs.List.{All, flat_map, take_while}
use Rattle.dpi_format.specs.declared.c_piece.CLetter.{CLetter}
use Rattle.dpi_format.specs.declared.c_piece.CLetter.TheVariants.{D, U, X}
use Rattle.dpi_format.specs.declared.c_piece.CNumber.{CNumber}
use Rattle.dpi_format.specs.declared.c_piece.CPiece.{CPiece}
use Rattle.dpi_format.specs.declared.c_piece.CPiece.TheVariants.{Byte, Percent, Text, Character, Number}

-- the letter as it is written
abbrev pub letter_spelled : CLetter → List ℕ
letter_spelled D = codes "d"
letter_spelled U = codes "u"
letter_spelled X = codes "x"

-- the flag 0, or none
abbrev pub zero_spelled : Bool → List ℕ
zero_spelled true = codes "0"
zero_spelled false = []

-- the width in decimal, or none
abbrev pub width_spelled : Option ℕ → List ℕ
width_spelled None = []
width_spelled (Some width) = decimal width

-- the `ll` before the letter, or none
abbrev pub long_spelled : Bool → List ℕ
long_spelled true = codes "ll"
long_spelled false = []

-- how a number's piece is written behind its percent sign
abbrev pub number_spelled : CNumber → List ℕ
number_spelled n =
    zero_spelled n.zero ++ (width_spelled n.width ++ (long_spelled n.long ++ letter_spelled n.letter))

-- how a piece is written
abbrev pub spelled : CPiece → List ℕ
spelled (Byte b) = b ∷ []
spelled Percent = codes "%%"
spelled Text = codes "%s"
spelled Character = codes "%c"
spelled (Number n) = codes "%" ++ number_spelled n

-- a width has one or two digits, and its first is no 0
abbrev pub IsWidth : ℕ → Type 0
IsWidth width = (1 ≤ width) × (width ≤ 99)

-- a byte that prints itself is no percent sign, which is written twice; a width that is given is one
abbrev pub IsPlain : CPiece → Type 0
IsPlain (Byte b) = ¬ (b ∷ [] ≡ codes "%")
IsPlain Percent = Unit
IsPlain Text = Unit
IsPlain Character = Unit
IsPlain (Number n) = IfSome n.width IsWidth

-- what ends a string of C
abbrev pub is_zero : ℕ → Bool
is_zero b = b == 0

-- the bytes before the first 0, or all where there is none
abbrev pub before_zero : List ℕ → List ℕ
before_zero bytes = take_while (λ b. not (is_zero b)) bytes

-- the bytes are a format of these pieces: up to the first 0 they are the pieces' spellings, one
-- behind the other
abbrev pub IsCFormat : List ℕ → List CPiece → Type 0
IsCFormat bytes pieces = All IsPlain pieces × (before_zero bytes ≡ flat_map spelled pieces)

-- a format has no other pieces
abbrev pub CIsUnambiguous : Type 0
CIsUnambiguous = (bytes : List ℕ) (some others : List CPiece) → IsCFormat bytes some →
    IsCFormat bytes others → some ≡ others
