use Rattle.std.specs.Prelude.{ℕ, Bool, false, Option, List, [], ◌∷◌, ◌==◌, ◌&&◌, ◌||◌, not, nat_le}
use Rattle.std.specs.Prelude.{if◌then◌else◌, length, drop, slice_index, codes}
use Rattle.std.specs.List.{list_all, take_while}
use Rattle.dpi_lex.specs.declared.form.Form.{Form}
use Rattle.dpi_lex.specs.Bytes.{is_among, is_digit, is_letter}
use Rattle.dpi_lex.specs.Digits.{is_digit_in, value_in, number_if}
use Rattle.dpi_lex.specs.Shapes.{form_if, is_listed, texts, behind}

-- what a number goes on with
abbrev pub is_number_byte : ℕ → Bool
is_number_byte b = is_letter b || is_digit b

-- a digit, and letters and digits
abbrev pub is_number_stretch : List ℕ → Bool
is_number_stretch [] = false
is_number_stretch (b ∷ more) = is_digit b && list_all is_number_byte more

-- the base of a number: 16 after `0x`, else 8 after a `0`, else 10
abbrev pub base_of_c : List ℕ → ℕ
base_of_c bytes =
    if is_among (codes "0") (slice_index bytes 0)
    then (if is_among (codes "xX") (slice_index bytes 1) then 16 else 8)
    else 10

-- a number without the `0x`
abbrev pub without_prefix : List ℕ → List ℕ
without_prefix bytes = if base_of_c bytes == 16 then drop 2 bytes else bytes

-- the digits that may stand in a base: 8 and 10 have the same, so an 8 after a 0 is a wrong digit
abbrev pub is_digit_of : ℕ → ℕ → Bool
is_digit_of base b = if base == 16 then is_digit_in 16 b else is_digit b

-- the digits of a number
abbrev pub digits_of : List ℕ → List ℕ
digits_of bytes = take_while (is_digit_of (base_of_c bytes)) (without_prefix bytes)

-- what follows the digits of a number
abbrev pub suffix_of : List ℕ → List ℕ
suffix_of bytes = behind (is_digit_of (base_of_c bytes)) (without_prefix bytes)

-- the suffixes
unfoldable pub suffixes : List (List ℕ)
suffixes = texts (codes "u U ll LL ull uLL Ull ULL llu llU LLu LLU")

-- the greatest value: a decimal number without a suffix is signed
abbrev pub greatest : ℕ → List ℕ → ℕ
greatest base suffix =
    if base == 10 && length suffix == 0 then 9223372036854775807 else 18446744073709551615

-- a suffix, or none
abbrev pub is_suffix : List ℕ → Bool
is_suffix bytes = length bytes == 0 || is_listed suffixes bytes

-- digits of the base, at least one, a suffix or none, and a value that some type holds
abbrev pub is_number_of : ℕ → List ℕ → List ℕ → Bool
is_number_of base digits suffix =
    not (length digits == 0)
    && list_all (is_digit_in base) digits
    && is_suffix suffix
    && nat_le (value_in base digits) (greatest base suffix)

-- a stretch that is a number
abbrev pub is_c_number : List ℕ → Bool
is_c_number bytes = is_number_of (base_of_c bytes) (digits_of bytes) (suffix_of bytes)

-- a number takes all letters and digits that follow
abbrev pub c_number_form : List ℕ → Option Form
c_number_form bytes = form_if (is_number_stretch bytes) (number_if (is_c_number bytes))
