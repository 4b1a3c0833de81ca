-- Arithmetic on the numbers that lists write.
use Rattle.std.specs.Prelude.{ℕ, ◌+◌, ◌-◌, ◌*◌, ◌^◌, ℤ, pos, negsuc, Bool, true, false, ◌&&◌, if◌then◌else◌, nat_eq, int_lt, int_div, int_rem, List, length, map}
use Rattle.dpi_bits.specs.declared.bit.Bit.{Bit}
use Rattle.dpi_bits.specs.declared.bit.Bit.TheVariants.{Zero, One, X}
use Rattle.dpi_bits.specs.Bits.{not_bit}
use Rattle.dpi_bits.specs.Lists.{known, all_x, top}
use Rattle.dpi_bits.specs.Numbers.{number, binary}
use Rattle.dpi_bits.specs.Parts.{extension, shifted_left, shifted_right}
use Rattle.dpi_bits.specs.Sought.{is_one}

-- so many digits of a whole number in two's complement, where -(n + 1) is written as n inverted
abbrev pub twos_complement : ℕ → ℤ → List Bit
twos_complement width (pos n) = binary width n
twos_complement width (negsuc n) = map not_bit (binary width n)

-- the whole number that a list writes, in two's complement where it is signed
abbrev pub value : Bool → List Bit → ℤ
value false bits = pos (number bits)
value true bits =
    if is_one (top bits) then negsuc (number (map not_bit bits)) else pos (number bits)

-- an answer of known operands; all x where a bit of either is unknown
abbrev pub where_known : List Bit → List Bit → List Bit → List Bit
where_known a b answer = if known a && known b then answer else all_x a

-- `-` of one operand, modulo 2 to the width
abbrev pub negated : List Bit → List Bit
negated a = where_known a a (binary (length a) (2 ^ length a - number a))

-- `+` modulo 2 to the width
abbrev pub sum_of : List Bit → List Bit → List Bit
sum_of a b = where_known a b (binary (length a) (number a + number b))

-- `-` modulo 2 to the width
abbrev pub difference : List Bit → List Bit → List Bit
difference a b = where_known a b (binary (length a) (number a + (2 ^ length a - number b)))

-- `*` modulo 2 to the width
abbrev pub product_of : List Bit → List Bit → List Bit
product_of a b = where_known a b (binary (length a) (number a * number b))

-- an answer of a division, all x by zero
abbrev pub where_divisible : List Bit → List Bit → List Bit → List Bit
where_divisible a b answer = where_known a b (if nat_eq (number b) 0 then all_x a else answer)

-- `/` rounded toward zero, modulo 2 to the width
abbrev pub quotient : Bool → List Bit → List Bit → List Bit
quotient signed a b =
    where_divisible a b (twos_complement (length a) (int_div (value signed a) (value signed b)))

-- `%` with the sign of the first operand
abbrev pub remainder : Bool → List Bit → List Bit → List Bit
remainder signed a b =
    where_divisible a b (twos_complement (length a) (int_rem (value signed a) (value signed b)))

-- `<`: x where a bit is unknown
abbrev pub less_than : Bool → List Bit → List Bit → Bit
less_than signed a b =
    if known a && known b
    then (if int_lt (value signed a) (value signed b) then One else Zero)
    else X

-- `<<` by the number of a list
abbrev pub shift_left : List Bit → List Bit → List Bit
shift_left bits by = if known by then shifted_left (number by) bits else all_x bits

-- `>>` by the number of a list, or `>>>`, which fills with the top bit
abbrev pub shift_right : Bool → List Bit → List Bit → List Bit
shift_right arithmetic bits by =
    if known by then shifted_right (number by) (extension arithmetic bits) bits else all_x bits
