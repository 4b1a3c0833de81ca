-- Which arguments a format of printf takes (ISO C 7.21.6.1).
use Rattle.std.specs.Prelude.{ℕ, Bool, true, false, ◌==◌, ◌&&◌, if◌then◌else◌, Option, Some, None, List, length}
use Rattle.std.specs.List.{filter, zip, list_all}
use Rattle.c_base.specs.declared.base.CBase.TheVariants.{Int, Char}
use Rattle.c_base.specs.declared.ctype.CType.{CType}
use Rattle.c_base.specs.Base.{width, promoted}
use Rattle.c_base.specs.Types.{is_number}
use Rattle.dpi_format.specs.declared.c_piece.CPiece.{CPiece}
use Rattle.dpi_format.specs.declared.c_piece.CPiece.TheVariants as pieces
use Rattle.dpi_literal.specs.Texts.{text_of}
use Rattle.c_typing.specs.declared.operand.Operand.{Operand}
use Rattle.c_typing.specs.Pointers.{same_base}
use Rattle.c_printf.specs.Pieces.{pieces_of}

-- the piece prints an argument
abbrev pub is_letter : CPiece → Bool
is_letter (pieces.Byte b) = false
is_letter pieces.Percent = false
is_letter other = true

-- a pointer to `char` or `const char`
abbrev pub is_text : CType → Bool
is_text of = of.stars == 1 && same_base of.base Char

-- a number that is an `int` after promotion
abbrev pub is_character : CType → Bool
is_character of = is_number of && same_base (promoted of.base) Int

-- the bits of a number that is printed with `ll` and without
abbrev pub bits_of : Bool → ℕ
bits_of long = if long then 64 else 32

-- a number of so many bits after promotion
abbrev pub is_number_of : Bool → CType → Bool
is_number_of long of = is_number of && (width (promoted of.base) == bits_of long)

-- the piece prints arguments of the type; the last line is pieces that print none
abbrev pub suits : CPiece → CType → Bool
suits pieces.Text of = is_text of
suits pieces.Character of = is_character of
suits (pieces.Number n) of = is_number_of n.long of
suits other of = true

-- an argument without a type is passed over
abbrev pub suits_any : CPiece → Option Operand → Bool
suits_any p None = true
suits_any p (Some a) = suits p a.of

-- the pieces that print an argument
abbrev pub letters : List CPiece → List CPiece
letters ps = filter is_letter ps

-- each argument suits its letter
abbrev pub all_suit : List CPiece → List (Option Operand) → Bool
all_suit ls xs = list_all (λ x. suits_any x.0 x.1) (zip ls xs)

-- as many arguments as letters, and each suits its letter
abbrev pub pieces_fit : List CPiece → List (Option Operand) → Bool
pieces_fit ps xs = (length (letters ps) == length xs) && all_suit (letters ps) xs

-- the arguments fit the format, where it is one
abbrev pub format_fits : Option (List CPiece) → List (Option Operand) → Bool
format_fits None xs = false
format_fits (Some ps) xs = pieces_fit ps xs

-- the arguments fit the string token
abbrev pub text_fits : List ℕ → List (Option Operand) → Bool
text_fits bytes xs = format_fits (pieces_of (text_of bytes)) xs
