use Rattle.std.specs.Prelude.{ℕ, Bool, true, false, Option, List, [], ◌∷◌, ◌-◌, ◌≡◌, ◌≤◌, ◌==◌}
use Rattle.std.specs.Prelude.{◌&&◌, ◌||◌, not, nat_lt, nat_le, if◌then◌else◌, length, take, drop}
use Rattle.std.specs.Prelude.{slice_index, codes, count_by}
use Rattle.std.specs.List.{list_all, list_any, prefix_len}
use Rattle.dpi_lex.specs.declared.form.Form.{Form}
use Rattle.dpi_lex.specs.declared.form.Form.TheVariants.{Whole}
use Rattle.dpi_lex.specs.declared.token.Kind.TheVariants.{Number}
use Rattle.dpi_lex.specs.Bytes.{is_among, is_digit, is_letter, is_underscore, is_apostrophe}
use Rattle.dpi_lex.specs.Digits.{is_digit_in, value_in, ends_in_digit, number_if}
use Rattle.dpi_lex.specs.Shapes.{form_if, first_form}

-- what a plain number or a size goes on with
abbrev pub is_plain_byte : ℕ → Bool
is_plain_byte b = is_digit b || is_underscore b

-- a digit, and bytes with which a plain number goes on
abbrev pub is_plain_stretch : List ℕ → Bool
is_plain_stretch [] = false
is_plain_stretch (b ∷ more) = is_digit b && list_all is_plain_byte more

-- each `_` stands between digits, and the value fits in 32 bits
abbrev pub is_plain_number : List ℕ → Bool
is_plain_number bytes = ends_in_digit bytes && nat_le (value_in 10 bytes) 4294967295

-- the base of a based number, by its letter of either case; 0 for another byte
abbrev pub base_of : ℕ → ℕ
base_of b =
    if is_among (codes "bB") b
    then 2
    else (if is_among (codes "oO") b
    then 8
    else (if is_among (codes "dD") b then 10 else (if is_among (codes "hH") b then 16 else 0)))

-- the bytes of a `'`, an `s` that may stand there, and a base, from the front; 0 where they aren't
abbrev pub base_len : List ℕ → ℕ
base_len bytes =
    if not (is_apostrophe (slice_index bytes 0))
    then 0
    else (if nat_lt 0 (base_of (slice_index bytes 1))
    then 2
    else (if is_among (codes "s") (slice_index bytes 1) && nat_lt 0 (base_of (slice_index bytes 2))
    then 3
    else 0))

-- what a based number goes on with
abbrev pub is_based_byte : ℕ → Bool
is_based_byte b = is_letter b || is_digit b || is_among (codes "_?") b

-- the same behind the first byte after the base: in base 10 no `?` can stand there
abbrev pub goes_on : ℕ → ℕ → Bool
goes_on base b = is_based_byte b && not (base == 10 && is_among (codes "?") b)

-- the bytes after a base
abbrev pub are_based_bytes : ℕ → List ℕ → Bool
are_based_bytes base [] = true
are_based_bytes base (b ∷ more) = is_based_byte b && list_all (goes_on base) more

-- so many bytes after a base belong to its number, and no more of them
pub record IsBasedRun (base : ℕ) (rest : List ℕ) (n : ℕ) : Type 0 where
  pub within : n ≤ length rest
  pub run : (m : ℕ) → m ≤ length rest → are_based_bytes base (take m rest) ≡ nat_le m n

-- the size of a based number: the digits and `_` at its front, which may be none
abbrev pub size_of : List ℕ → List ℕ
size_of bytes = take (prefix_len is_plain_byte bytes) bytes

-- what follows the size: the `'`, the base and its digits
abbrev pub after_size : List ℕ → List ℕ
after_size bytes = drop (prefix_len is_plain_byte bytes) bytes

-- the base that stands in what follows the size
abbrev pub given_base : List ℕ → ℕ
given_base after = base_of (slice_index after (base_len after - 1))

-- the digits that stand in what follows the size
abbrev pub given_digits : List ℕ → List ℕ
given_digits after = drop (base_len after) after

-- a `'`, a base, and bytes with which a number of that base goes on
abbrev pub is_base_and_digits : List ℕ → Bool
is_base_and_digits after =
    nat_lt 0 (base_len after) && are_based_bytes (given_base after) (given_digits after)

-- no size, or one that is spelled like a plain number, from 1 to 1,024
abbrev pub is_size : List ℕ → Bool
is_size size =
    (length size == 0)
    || (ends_in_digit size && nat_le 1 (value_in 10 size) && nat_le (value_in 10 size) 1024)

-- a digit of which each bit is unknown or open
abbrev pub is_four_state : ℕ → Bool
is_four_state b = is_among (codes "xXzZ?") b

-- how many of the bytes aren't a `_`
abbrev pub given_len : List ℕ → ℕ
given_len digits = count_by (λ b. not (is_underscore b)) digits

-- what may stand among the digits of a base
abbrev pub is_given_in : ℕ → ℕ → Bool
is_given_in base b = is_digit_in base b || is_four_state b || is_underscore b

-- a four-state digit alone, or decimal digits whose value fits in 64 bits; `_` may stand anywhere
abbrev pub are_decimal_digits : List ℕ → Bool
are_decimal_digits digits =
    (given_len digits == 1 && list_any is_four_state digits)
    || (list_any is_digit digits
    && list_all is_plain_byte digits
    && nat_le (value_in 10 digits) 18446744073709551615)

-- digits of the base or four-state ones, at least one; `_` may stand anywhere
abbrev pub are_digits_in : ℕ → List ℕ → Bool
are_digits_in base digits =
    nat_lt 0 (given_len digits) && list_all (is_given_in base) digits

-- what a base asks of its digits
abbrev pub are_digits : ℕ → List ℕ → Bool
are_digits base digits =
    if base == 10 then are_decimal_digits digits else are_digits_in base digits

-- a size that may be missing, a base and digits
abbrev pub based_form : List ℕ → Option Form
based_form bytes =
    let size = size_of bytes in
    let after = after_size bytes in
    form_if
    ((length size == 0 || is_digit (slice_index size 0)) && is_base_and_digits after)
    (number_if (is_size size && are_digits (given_base after) (given_digits after)))

-- all bits 0, 1, x or z
abbrev pub is_fill : List ℕ → Bool
is_fill (a ∷ b ∷ []) = is_apostrophe a && is_among (codes "01xz") b
is_fill bytes = false

-- a number: plain, based, or a fill
abbrev pub sv_number_form : List ℕ → Option Form
sv_number_form bytes =
    first_form (form_if (is_plain_stretch bytes) (number_if (is_plain_number bytes))
    ∷ based_form bytes
    ∷ form_if (is_fill bytes) (Whole Number)
    ∷ [])
