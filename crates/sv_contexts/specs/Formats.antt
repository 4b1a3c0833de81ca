-- Formats of `$display` and `$write`, and the arguments that they show (21.2.1).
use Rattle.std.specs.Prelude.{ℕ, zero, suc, ◌-◌, nat_lt, Bool, true, false, ◌&&◌, if◌then◌else◌, Option, Some, None, option_map, List, [], ◌∷◌, ◌++◌, length, ◌==◌, filter_map}
use Rattle.dpi_rules.specs.declared.violation.Violation.{Violation}
use Rattle.dpi_rules.specs.Order.{violation}
use Rattle.dpi_format.specs.declared.sv_piece.SvPiece.{SvPiece}
use Rattle.dpi_format.specs.declared.sv_piece.SvPiece.TheVariants as pieces
use Rattle.dpi_format.specs.declared.sv_piece.SvLetter.{SvLetter}
use Rattle.dpi_format.specs.declared.sv_piece.SvLetter.TheVariants as letters
use Rattle.dpi_format.specs.SvFormat.{spelled}
use Rattle.dpi_format.specs.SvFirst.{first_of}
use Rattle.dpi_literal.specs.Texts.{text_of}
use Rattle.sv_typing.specs.declared.types.Operand.{Operand}
use Rattle.sv_contexts.specs.declared.formats.Shown.{Shown}
use Rattle.sv_contexts.specs.declared.formats.Conversion.{Conversion}
use Rattle.sv_contexts.specs.declared.formats.Conversion.TheVariants as conversions
use Rattle.sv_typing.specs.Types.{is_packed, is_text, width_of}
use Rattle.sv_typing.specs.Judged.{width_broken}

-- an unknown letter, or arguments that don't fit the format
abbrev pub format_broken : ℕ → ℕ → Violation
format_broken file token = violation file token 24

abbrev pub one_more : Option SvPiece → (ℕ → Option (List SvPiece)) → Option (List SvPiece)
one_more None others = None
one_more (Some p) others = option_map (λ ps. p ∷ ps) (others (length (spelled p) - 1))

-- the pieces that spell what stands behind so many bytes, if there are such
abbrev pub pieces_behind : List ℕ → ℕ → Option (List SvPiece)
pieces_behind [] skipped = Some []
pieces_behind (b ∷ more) (suc skipped) = pieces_behind more skipped
pieces_behind (b ∷ more) zero = one_more (first_of (b ∷ more)) (λ skipped. pieces_behind more skipped)

abbrev pub pieces_of : List ℕ → Option (List SvPiece)
pieces_of bytes = pieces_behind bytes 0

-- how a number is shown
abbrev pub shown_by : SvLetter → Conversion
shown_by letters.D = conversions.Decimal
shown_by other = conversions.Digits

-- how a piece shows an argument, if it shows one
abbrev pub conversion_of : SvPiece → Option Conversion
conversion_of (pieces.Byte b) = None
conversion_of pieces.Percent = None
conversion_of pieces.Text = Some conversions.Text
conversion_of (pieces.Number n) = Some (shown_by n.letter)

-- a text shows a string, the others packed bits; an argument without a type is passed over
abbrev pub fits : Conversion → Option Operand → Bool
fits c None = true
fits conversions.Text (Some o) = is_text o.of
fits other (Some o) = is_packed o.of

-- nothing fits where nothing is shown
abbrev pub fits_at : Option Conversion → Option Operand → Bool
fits_at None o = false
fits_at (Some c) o = fits c o

-- each argument is shown by what fits it
abbrev pub are_shown : List Shown → List Conversion → Bool
are_shown [] cs = true
are_shown (a ∷ args) [] = false
are_shown (a ∷ args) (c ∷ cs) = fits c a.operand && are_shown args cs

-- as many arguments as are shown, each of a kind that fits
abbrev pub are_fitting : List Conversion → List Shown → Bool
are_fitting cs args = (length cs == length args) && are_shown args cs

abbrev pub too_wide : ℕ → ℕ → Option Operand → List Violation
too_wide file token None = []
too_wide file token (Some o) = if nat_lt 64 (width_of o.of) then width_broken file token ∷ [] else []

-- a decimal of more than 64 bits, by the first token of the argument
abbrev pub decimal_violations : ℕ → Shown → Option Conversion → List Violation
decimal_violations file a None = []
decimal_violations file a (Some conversions.Decimal) = too_wide file a.token a.operand
decimal_violations file a (Some other) = []

-- the decimals among the arguments
abbrev pub decimals_violations : ℕ → List Shown → List Conversion → List Violation
decimals_violations file [] cs = []
decimals_violations file (a ∷ args) [] = []
decimals_violations file (a ∷ args) (c ∷ cs) = decimal_violations file a (Some c) ++ decimals_violations file args cs

-- arguments that don't fit are broken at the string
abbrev pub fitting_violations : ℕ → ℕ → List Conversion → List Shown → List Violation
fitting_violations file token cs args = if are_fitting cs args then [] else format_broken file token ∷ []

-- the arguments of a format that shows them so
abbrev pub shown_violations : ℕ → ℕ → List Conversion → List Shown → List Violation
shown_violations file token cs args =
    fitting_violations file token cs args ++ decimals_violations file args cs

-- a format without pieces has an unknown letter
abbrev pub pieces_violations : ℕ → ℕ → Option (List SvPiece) → List Shown → List Violation
pieces_violations file token None args = format_broken file token ∷ []
pieces_violations file token (Some ps) args = shown_violations file token (filter_map conversion_of ps) args

-- what a format, by its string, and its arguments violate
abbrev pub format_violations : ℕ → ℕ → List ℕ → List Shown → List Violation
format_violations file token bytes args = pieces_violations file token (pieces_of (text_of bytes)) args
