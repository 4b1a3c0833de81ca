use Rattle.std.specs.Prelude.{ℕ, Bool, Option, List, ◌++◌, ◌-◌, ◌==◌, ◌&&◌, ◌||◌, not, nat_lt}
use Rattle.std.specs.Prelude.{nat_eq, if◌then◌else◌, length, drop, slice_index, codes}
use Rattle.std.specs.List.{starts_with, take_while}
use Rattle.dpi_lex.specs.declared.fault.LexFault.TheVariants.{BadByte, BadNumber}
use Rattle.dpi_lex.specs.declared.form.Form.{Form}
use Rattle.dpi_lex.specs.declared.form.Form.TheVariants.{Whole, Faulty}
use Rattle.dpi_lex.specs.declared.language.Language.TheVariants.{C}
use Rattle.dpi_lex.specs.declared.token.Kind.TheVariants.{Define}
use Rattle.dpi_lex.specs.Bytes.{is_among, is_blank, is_digit, is_name_byte}
use Rattle.dpi_lex.specs.CNumbers.{is_number_stretch, is_c_number}
use Rattle.dpi_lex.specs.Place.{is_line_feed}
use Rattle.dpi_lex.specs.Shapes.{form_if, is_name, is_listed, texts, behind}

-- the words that can't be names
unfoldable pub c_keywords : List (List ℕ)
c_keywords =
    texts (codes "void char short int long signed unsigned const")
    ++ texts (codes "svBit svLogic svBitVecVal svLogicVecVal svOpenArrayHandle svScope")
    ++ texts (codes "int8_t uint8_t int16_t uint16_t int32_t uint32_t int64_t uint64_t")
    ++ texts (codes "static extern if else while do for return break continue NULL")

-- a name that isn't a keyword
abbrev pub is_free_name : List ℕ → Bool
is_free_name bytes = is_name (is_name_byte C) bytes && not (is_listed c_keywords bytes)

-- a define from its name on: what follows `#define` and blanks
abbrev pub from_name : List ℕ → List ℕ
from_name bytes = behind is_blank (drop 7 bytes)

-- the name of a define
abbrev pub define_name : List ℕ → List ℕ
define_name bytes = take_while (is_name_byte C) (from_name bytes)

-- what follows the name of a define
abbrev pub behind_name : List ℕ → List ℕ
behind_name bytes = behind (is_name_byte C) (from_name bytes)

-- a define from its value on
abbrev pub from_value : List ℕ → List ℕ
from_value bytes = behind is_blank (behind_name bytes)

-- the bytes of a `-` at the front
abbrev pub minus_len : List ℕ → ℕ
minus_len bytes = if is_among (codes "-") (slice_index bytes 0) then 1 else 0

-- a define from its number on: the value without a `-`
abbrev pub from_number : List ℕ → List ℕ
from_number bytes = drop (minus_len (from_value bytes)) (from_value bytes)

-- `#define`, blanks, a name that isn't a keyword, blanks, a `-` or none, and a digit
abbrev pub begins_define : List ℕ → Bool
begins_define bytes =
    starts_with nat_eq bytes (codes "#define")
    && is_blank (slice_index bytes 7)
    && is_free_name (define_name bytes)
    && is_blank (slice_index (behind_name bytes) 0)
    && is_digit (slice_index (from_number bytes) 0)

-- the bytes of a define before its number; 0 where it's none
abbrev pub number_place : List ℕ → ℕ
number_place bytes =
    if begins_define bytes then length bytes - length (from_number bytes) else 0

-- what may follow a define: blanks, and then the end of the line or the text, or a comment
abbrev pub may_follow : List ℕ → Bool
may_follow after =
    let rest = behind is_blank after in
    length rest == 0
    || is_line_feed (slice_index rest 0)
    || starts_with nat_eq rest (codes "//")
    || starts_with nat_eq rest (codes "/*")

-- a define by its number and what follows. A broken number is a fault of its own, whatever follows
abbrev pub define_of : ℕ → List ℕ → List ℕ → Form
define_of place number after =
    if not (is_c_number number)
    then Faulty (BadNumber place)
    else (if may_follow after then Whole Define else Faulty (BadByte 0))

-- a define with its number
abbrev pub define_form : List ℕ → List ℕ → Option Form
define_form bytes after =
    let place = number_place bytes in
    form_if
    (nat_lt 0 place && is_number_stretch (drop place bytes))
    (define_of place (drop place bytes) after)
