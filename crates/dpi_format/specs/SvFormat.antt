-- Formats of $display and $write: their pieces, and how each is spelled (1800 21.2.1).
use Rattle.std.specs.Prelude.{◌≡◌, ℕ, Bool, true, false, List, [], ◌∷◌, ◌++◌, codes}
use Rattle.std.specs.List.{All, flat_map}
use Rattle.dpi_format.specs.declared.sv_piece.SvLetter.{SvLetter}
use Rattle.dpi_format.specs.declared.sv_piece.SvLetter.TheVariants.{B, D, H, X}
use Rattle.dpi_format.specs.declared.sv_piece.SvPiece.{SvPiece}
use Rattle.dpi_format.specs.declared.sv_piece.SvPiece.TheVariants.{Byte, Percent, Text, Number}

-- the base that a letter stands for
abbrev pub base_of : SvLetter → ℕ
base_of B = 2
base_of D = 10
base_of H = 16
base_of X = 16

-- the letter as it is written
abbrev pub letter_spelled : SvLetter → List ℕ
letter_spelled B = codes "b"
letter_spelled D = codes "d"
letter_spelled H = codes "h"
letter_spelled X = codes "x"

-- the 0 behind the percent sign, or none
abbrev pub zero_spelled : Bool → List ℕ
zero_spelled true = codes "0"
zero_spelled false = []

-- how a piece is written
abbrev pub spelled : SvPiece → List ℕ
spelled (Byte b) = b ∷ []
spelled Percent = codes "%%"
spelled Text = codes "%s"
spelled (Number n) = codes "%" ++ (zero_spelled n.zero ++ letter_spelled n.letter)

-- a byte that prints itself is no percent sign, which is written twice
abbrev pub IsPlain : SvPiece → Type 0
IsPlain (Byte b) = ¬ (b ∷ [] ≡ codes "%")
IsPlain Percent = Unit
IsPlain Text = Unit
IsPlain (Number n) = Unit

-- the bytes are a format of these pieces: their spellings, one behind the other
abbrev pub IsSvFormat : List ℕ → List SvPiece → Type 0
IsSvFormat bytes pieces = All IsPlain pieces × (bytes ≡ flat_map spelled pieces)

-- a format has no other pieces
abbrev pub SvIsUnambiguous : Type 0
SvIsUnambiguous = (bytes : List ℕ) (some others : List SvPiece) → IsSvFormat bytes some →
    IsSvFormat bytes others → some ≡ others
