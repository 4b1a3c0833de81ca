-- Decimal numbers as they are spelled.
use Rattle.std.specs.Prelude.{ℕ, ◌&&◌, List, Option, Some, None, nat_lt, if◌then◌else◌}
use Rattle.std.specs.List.{list_all}
use Rattle.std.specs.Char.{is_ascii_digit}
use Rattle.std.specs.Str.Parse.{digits_value}

-- the value of decimal digits, where it is below 2 ^ 32
abbrev pub value_of : List ℕ → Option ℕ
value_of digits =
    if list_all is_ascii_digit digits && nat_lt (digits_value 10 digits) 4294967296 then Some (digits_value 10 digits) else None
