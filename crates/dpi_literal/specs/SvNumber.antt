-- Numbers of SystemVerilog: what they tell, and the bits that they stand for (1800 5.7.1).
use Rattle.std.specs.Prelude.{ℕ, ◌^◌, min, max, ℤ, pos, negsuc, Bool, true, false, ◌==◌, ◌&&◌, not, nat_lt}
use Rattle.std.specs.Prelude.{if◌then◌else◌, Option, Some, None, List, [], ◌∷◌, ◌++◌, length, take, replicate}
use Rattle.std.specs.Prelude.{slice_index, codes, find}
use Rattle.std.specs.List.{list_any}
use Rattle.dpi_bits.specs.declared.bit.Bit.{Bit}
use Rattle.dpi_bits.specs.declared.bit.Bit.TheVariants.{Zero, One, Z, X}
use Rattle.dpi_bits.specs.Arithmetic.{value}
use Rattle.dpi_bits.specs.Lists.{known}
use Rattle.dpi_bits.specs.Numbers.{binary}
use Rattle.dpi_lex.specs.Bytes.{is_among, is_underscore, digit_value}
use Rattle.dpi_lex.specs.Digits.{is_digit_in, value_in}
use Rattle.dpi_lex.specs.SvNumbers.{is_plain_stretch, is_plain_number, is_fill, is_four_state, size_of, after_size}
use Rattle.dpi_lex.specs.SvNumbers.{base_len, given_base, given_digits}
use Rattle.dpi_literal.specs.declared.form.NumberForm.{NumberForm}
use Rattle.dpi_literal.specs.declared.form.NumberKind.{NumberKind}
use Rattle.dpi_literal.specs.declared.form.NumberKind.TheVariants.{Plain, Based, Fill}

-- a fill, a based number, or else a plain one
abbrev pub kind_of : List ℕ → NumberKind
kind_of bytes =
    if is_fill bytes
    then Fill
    else (if nat_lt 0 (base_len (after_size bytes)) then Based else Plain)

-- x or z for a digit of such bits, else 0: what a number with this digit in front is padded with
abbrev pub filler : ℕ → Bit
filler b = if is_among (codes "xX") b then X else (if is_four_state b then Z else Zero)

-- the filler of a byte that may be missing
abbrev pub filler_of : Option ℕ → Bit
filler_of None = Zero
filler_of (Some b) = filler b

-- how many bits a digit of base 2, 8 or 16 stands for
abbrev pub digit_width : ℕ → ℕ
digit_width base = if base == 2 then 1 else (if base == 8 then 3 else 4)

-- the bits of one digit of base 2, 8 or 16, bit 0 first; none for a byte that's no digit
abbrev pub digit_bits : ℕ → ℕ → List Bit
digit_bits base b =
    if is_four_state b
    then replicate (digit_width base) (filler b)
    else (if is_digit_in base b then binary (digit_width base) (digit_value b) else [])

-- the bits of all digits: the last digit has the lowest ones
abbrev pub written : ℕ → List ℕ → List Bit
written base [] = []
written base (b ∷ more) = written base more ++ digit_bits base b

-- the first byte that isn't a `_`
abbrev pub leading : List ℕ → Option ℕ
leading digits = find (λ b. not (is_underscore b)) digits

-- digits of base 2, 8 or 16 at a width: padded by the first digit's filler, and cut
abbrev pub padded : ℕ → ℕ → List ℕ → List Bit
padded width base digits =
    take width (written base digits ++ replicate width (filler_of (leading digits)))

-- digits of base 10 at a width by the x or z digit that stands there, if one does: all bits x or z,
-- else the value
abbrev pub decimal_by : ℕ → List ℕ → Option ℕ → List Bit
decimal_by width digits None = binary width (min (value_in 10 digits) 18446744073709551615)
decimal_by width digits (Some b) = replicate width (filler b)

-- digits of base 10 at a width
abbrev pub decimal_bits : ℕ → List ℕ → List Bit
decimal_bits width digits = decimal_by width digits (find is_four_state digits)

-- the bits of a based number of that width
abbrev pub based_bits : ℕ → ℕ → List ℕ → List Bit
based_bits width base digits =
    if base == 10 then decimal_bits width digits else padded width base digits

-- the width of a based number with that size: 32 without one. Sizes lie between 1 and 1,024
abbrev pub given_width : List ℕ → ℕ
given_width size = if length size == 0 then 32 else max 1 (min 1024 (value_in 10 size))

-- the bit of a fill
abbrev pub fill_bit : ℕ → Bit
fill_bit b = if is_among (codes "1") b then One else filler b

-- the bits of a number of that kind, bit 0 first
abbrev pub bits_by : NumberKind → List ℕ → List Bit
bits_by Plain bytes = binary 32 (min (value_in 10 bytes) 4294967295)
bits_by Based bytes =
    based_bits
    (given_width (size_of bytes))
    (given_base (after_size bytes))
    (given_digits (after_size bytes))
bits_by Fill bytes = fill_bit (slice_index bytes 1) ∷ []

-- the bits of a number, bit 0 first
abbrev pub number_bits : List ℕ → List Bit
number_bits bytes = bits_by (kind_of bytes) bytes

-- a plain number is signed, and a based one with an `s`
abbrev pub is_signed_by : NumberKind → List ℕ → Bool
is_signed_by Plain bytes = true
is_signed_by Based bytes = base_len (after_size bytes) == 3
is_signed_by Fill bytes = false

-- the number is signed
abbrev pub is_signed : List ℕ → Bool
is_signed bytes = is_signed_by (kind_of bytes) bytes

-- a digit is x or z, be it one that the size drops
abbrev pub is_four_by : NumberKind → List ℕ → Bool
is_four_by Plain bytes = false
is_four_by Based bytes = list_any is_four_state (given_digits (after_size bytes))
is_four_by Fill bytes = is_four_state (slice_index bytes 1)

-- a size stands before the base
abbrev pub is_sized_by : NumberKind → List ℕ → Bool
is_sized_by Plain bytes = false
is_sized_by Based bytes = not (length (size_of bytes) == 0)
is_sized_by Fill bytes = false

-- what a number of that kind tells: its width is that of its bits
abbrev pub form_by : NumberKind → List ℕ → NumberForm
form_by kind bytes = record {
  width = length (bits_by kind bytes);
  signed = is_signed_by kind bytes;
  four = is_four_by kind bytes;
  sized = is_sized_by kind bytes;
  kind = kind;
}

-- what the bytes of a number tell
abbrev pub form_of : List ℕ → NumberForm
form_of bytes = form_by (kind_of bytes) bytes

-- the value of a plain decimal number, if the bytes are one
abbrev pub decimal_of : List ℕ → Option ℕ
decimal_of bytes =
    if is_plain_stretch bytes && is_plain_number bytes then Some (value_in 10 bytes) else None

-- the whole number has 64 digits in two's complement
abbrev pub fits_64 : ℤ → Bool
fits_64 (pos n) = nat_lt n (2 ^ 63)
fits_64 (negsuc n) = nat_lt n (2 ^ 63)

-- a number that is below 2 to the 63, as a whole number
abbrev pub positive : Option ℕ → Option ℤ
positive None = None
positive (Some n) = if nat_lt n (2 ^ 63) then Some (pos n) else None

-- the whole number whose digits inverted write a number that is below 2 to the 63
abbrev pub negative : Option ℕ → Option ℤ
negative None = None
negative (Some n) = if nat_lt n (2 ^ 63) then Some (negsuc n) else None

-- the whole number of bits that are all known, where it fits in 64 bits
abbrev pub whole_of : Bool → List Bit → Option ℤ
whole_of signed bits =
    if known bits && fits_64 (value signed bits) then Some (value signed bits) else None

-- a number's value with its sign, where each bit is known and the value fits in 64 bits
abbrev pub known_value : List ℕ → Option ℤ
known_value bytes = whole_of (is_signed bytes) (number_bits bytes)
