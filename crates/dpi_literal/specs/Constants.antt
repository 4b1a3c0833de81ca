-- Constants of C: their type and their value (ISO C 6.4.4).
use Rattle.std.specs.Prelude.{ℕ, ◌+◌, min, ℤ, pos, neg_ℤ, ◌-ℤ◌, Bool, true, false, ◌==◌, ◌&&◌, ◌||◌}
use Rattle.std.specs.Prelude.{not, nat_lt, nat_le, if◌then◌else◌, List, [], ◌∷◌, length, slice_index, codes}
use Rattle.std.specs.Prelude.{find, unwrap_or}
use Rattle.std.specs.List.{list_any}
use Rattle.dpi_lex.specs.Bytes.{is_among, is_backslash}
use Rattle.dpi_lex.specs.CNumbers.{base_of_c, digits_of, suffix_of}
use Rattle.dpi_lex.specs.Define.{from_value, from_number, minus_len}
use Rattle.dpi_lex.specs.Digits.{value_in}
use Rattle.dpi_literal.specs.declared.c_constants.CConstant.{CConstant}
use Rattle.dpi_literal.specs.declared.number_type.NumberType.{NumberType}
use Rattle.dpi_literal.specs.declared.number_type.NumberType.TheVariants.{Int, UnsignedInt, LongLong, UnsignedLongLong}
use Rattle.dpi_literal.specs.Texts.{escaped}

-- the greatest value of a type
abbrev pub greatest_of : NumberType → ℕ
greatest_of Int = 2147483647
greatest_of UnsignedInt = 4294967295
greatest_of LongLong = 9223372036854775807
greatest_of UnsignedLongLong = 18446744073709551615

-- the type has values below 0
abbrev pub is_signed_type : NumberType → Bool
is_signed_type Int = true
is_signed_type UnsignedInt = false
is_signed_type LongLong = true
is_signed_type UnsignedLongLong = false

-- the type has 64 bits
abbrev pub is_long_type : NumberType → Bool
is_long_type Int = false
is_long_type UnsignedInt = false
is_long_type LongLong = true
is_long_type UnsignedLongLong = true

-- the types that are tried, in this order
abbrev pub number_types : List NumberType
number_types = Int ∷ UnsignedInt ∷ LongLong ∷ UnsignedLongLong ∷ []

-- the suffix asks for an unsigned type
abbrev pub has_u : List ℕ → Bool
has_u suffix = list_any (is_among (codes "uU")) suffix

-- the suffix asks for a type of 64 bits
abbrev pub has_l : List ℕ → Bool
has_l suffix = list_any (is_among (codes "lL")) suffix

-- the type is open to a number of that base and suffix: the signed ones alone to a decimal number
-- without a suffix, else the unsigned ones alone with a `u` and the long ones alone with `ll`
abbrev pub is_open_to : ℕ → List ℕ → NumberType → Bool
is_open_to base suffix of =
    if base == 10 && length suffix == 0
    then is_signed_type of
    else (not (has_u suffix) || not (is_signed_type of)) && (not (has_l suffix) || is_long_type of)

-- the type is open to the number and holds its value
abbrev pub is_of : ℕ → List ℕ → ℕ → NumberType → Bool
is_of base suffix value of = is_open_to base suffix of && nat_le value (greatest_of of)

-- the first type that is open to the number and holds its value; the last one where none is
abbrev pub type_by : ℕ → List ℕ → ℕ → NumberType
type_by base suffix value = unwrap_or (find (is_of base suffix value) number_types) UnsignedLongLong

-- the value of a number's digits, which is below 2 to the 64
abbrev pub number_value : List ℕ → ℕ
number_value bytes = min (value_in (base_of_c bytes) (digits_of bytes)) 18446744073709551615

-- the type of a number
abbrev pub number_type : List ℕ → NumberType
number_type bytes = type_by (base_of_c bytes) (suffix_of bytes) (number_value bytes)

-- a number
abbrev pub number_of : List ℕ → CConstant
number_of bytes = record { of = number_type bytes; value = pos (number_value bytes) }

-- the byte of a character: the one that stands behind the `'`, or that of an escape
abbrev pub character_byte : List ℕ → ℕ
character_byte bytes =
    if is_backslash (slice_index bytes 1)
    then escaped (slice_index bytes 2)
    else slice_index bytes 1

-- a byte as a `char`, which is signed: past 127 it's less by 256
abbrev pub as_char : ℕ → ℤ
as_char b = if nat_lt b 128 then pos b else pos b -ℤ pos 256

-- a character, which is an `int`
abbrev pub character_of : List ℕ → CConstant
character_of bytes = record { of = Int; value = as_char (character_byte bytes) }

-- `-` of a value in its type: an unsigned type counts on from its greatest value
abbrev pub negated : NumberType → ℕ → ℤ
negated of value =
    if is_signed_type of || value == 0
    then neg_ℤ (pos value)
    else pos (greatest_of of + 1) -ℤ pos value

-- the number of a define, with `-` where one stands before it
abbrev pub define_value : List ℕ → CConstant
define_value bytes =
    let number = number_of (from_number bytes) in
    if minus_len (from_value bytes) == 0
    then number
    else record { of = number.of; value = negated number.of (number_value (from_number bytes)) }
