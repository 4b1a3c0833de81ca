use Rattle.std.specs.Prelude.{ℕ, Bool, Option, None, List, [], ◌∷◌, ◌++◌, ◌&&◌, ◌||◌, not}
use Rattle.std.specs.Prelude.{if◌then◌else◌, slice_index, codes}
use Rattle.dpi_lex.specs.declared.fault.LexFault.TheVariants.{BadByte}
use Rattle.dpi_lex.specs.declared.form.Form.{Form}
use Rattle.dpi_lex.specs.declared.form.Form.TheVariants.{Skipped, Whole, Faulty}
use Rattle.dpi_lex.specs.declared.language.Language.TheVariants.{C}
use Rattle.dpi_lex.specs.declared.token.Kind.TheVariants.{Character, Word, Sign}
use Rattle.dpi_lex.specs.Bytes.{is_apostrophe, is_backslash, is_name_byte, is_escape}
use Rattle.dpi_lex.specs.CNumbers.{c_number_form}
use Rattle.dpi_lex.specs.Define.{define_form}
use Rattle.dpi_lex.specs.Place.{is_line_feed}
use Rattle.dpi_lex.specs.Shapes.{form_if, first_form, is_space, is_line_of, block_form, is_name}
use Rattle.dpi_lex.specs.Shapes.{is_listed, texts, singles, text_form}
use Rattle.dpi_lex.specs.Stretches.{Forms}

-- a byte that stands for itself in a character
abbrev pub is_character_byte : ℕ → Bool
is_character_byte b = not (is_apostrophe b || is_backslash b || is_line_feed b)

-- a byte or an escape between `'`; a `'` and a backslash with which no escape begins are a fault
abbrev pub character_form : List ℕ → List ℕ → Option Form
character_form (a ∷ s ∷ []) after =
    form_if
    (is_apostrophe a && is_backslash s && not (is_escape C (slice_index after 0)))
    (Faulty (BadByte 1))
character_form (a ∷ b ∷ z ∷ []) after =
    form_if (is_apostrophe a && is_character_byte b && is_apostrophe z) (Whole Character)
character_form (a ∷ s ∷ e ∷ z ∷ []) after =
    form_if
    (is_apostrophe a && is_backslash s && is_escape C e && is_apostrophe z)
    (Whole Character)
character_form bytes after = None

-- the form of a character, wherever it stands
abbrev pub character_forms : Forms
character_forms begins bytes after = character_form bytes after

-- the signs of several bytes, the longest first
unfoldable pub c_long_signs : List (List ℕ)
c_long_signs =
    texts (codes "<<= >>=")
    ++ texts (codes "++ -- += -= *= /= %= &= |= ^= << >> <= >= == != && || ->")

-- the signs of one byte
unfoldable pub c_short_signs : List ℕ
c_short_signs = codes "(){}[];,=*+-!~&/%<>^|.?:"

-- the signs, the longest first
unfoldable pub c_signs : List (List ℕ)
c_signs = c_long_signs ++ singles c_short_signs

-- the form of a define, wherever it stands
abbrev pub define_forms : Forms
define_forms begins bytes after = define_form bytes after

-- what begins with a `#`: at the beginning of a line a line that is skipped, or a define
abbrev pub hash_forms : Forms
hash_forms begins bytes after =
    first_form (form_if (begins && is_line_of (codes "#include") bytes) Skipped
    ∷ (if begins then define_form bytes after else None)
    ∷ [])

-- what a stretch is: skipped, a define, a word, a number, a character, a string or a sign
abbrev pub c_forms : Forms
c_forms begins bytes after =
    first_form (form_if (is_space bytes) Skipped
    ∷ form_if (is_line_of (codes "//") bytes) Skipped
    ∷ block_form bytes
    ∷ hash_forms begins bytes after
    ∷ form_if (is_name (is_name_byte C) bytes) (Whole Word)
    ∷ c_number_form bytes
    ∷ character_form bytes after
    ∷ text_form (is_escape C) bytes
    ∷ form_if (is_listed c_signs bytes) (Whole Sign)
    ∷ [])
