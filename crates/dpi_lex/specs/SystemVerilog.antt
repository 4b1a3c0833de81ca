use Rattle.std.specs.Prelude.{ℕ, Option, List, [], ◌∷◌, ◌++◌, ◌&&◌, codes}
use Rattle.dpi_lex.specs.declared.form.Form.{Form}
use Rattle.dpi_lex.specs.declared.form.Form.TheVariants.{Skipped, Whole}
use Rattle.dpi_lex.specs.declared.language.Language.TheVariants.{SystemVerilog}
use Rattle.dpi_lex.specs.declared.token.Kind.TheVariants.{Word, Sign}
use Rattle.dpi_lex.specs.Bytes.{is_name_byte, is_escape}
use Rattle.dpi_lex.specs.Shapes.{form_if, first_form, is_space, is_line_of, block_form, is_name}
use Rattle.dpi_lex.specs.Shapes.{is_listed, texts, singles, text_form}
use Rattle.dpi_lex.specs.Stretches.{Forms}
use Rattle.dpi_lex.specs.SvNumbers.{sv_number_form}

-- the system names, the longest first
unfoldable pub system_names : List (List ℕ)
system_names = texts (codes "$unsigned $display $finish $signed $write")

-- the signs of several bytes, the longest first
unfoldable pub sv_long_signs : List (List ℕ)
sv_long_signs =
    texts (codes "<<< >>> <<= >>= === !==")
    ++ texts (codes "'{ += -= *= /= %= &= |= ^= ++ -- +: -: ~& ~| ~^ ^~ << >> <= >= == != && ||")

-- the signs of one byte
unfoldable pub sv_short_signs : List ℕ
sv_short_signs = codes "()[]{}';:,.#@?=+-*/%!~&|^<>"

-- the signs, the longest first
unfoldable pub sv_signs : List (List ℕ)
sv_signs = sv_long_signs ++ singles sv_short_signs

-- what a stretch is: skipped, a word, a number, a string or a sign
abbrev pub sv_forms : Forms
sv_forms begins bytes after =
    first_form (form_if (is_space bytes) Skipped
    ∷ form_if (is_line_of (codes "//") bytes) Skipped
    ∷ block_form bytes
    ∷ form_if (begins && is_line_of (codes "`timescale") bytes) Skipped
    ∷ form_if (is_name (is_name_byte SystemVerilog) bytes) (Whole Word)
    ∷ form_if (is_listed system_names bytes) (Whole Word)
    ∷ sv_number_form bytes
    ∷ text_form (is_escape SystemVerilog) bytes
    ∷ form_if (is_listed sv_signs bytes) (Whole Sign)
    ∷ [])

-- what begins with a `'`: a number or a sign
abbrev pub apostrophe_form : List ℕ → Option Form
apostrophe_form bytes =
    first_form (sv_number_form bytes ∷ form_if (is_listed sv_signs bytes) (Whole Sign) ∷ [])
