use Rattle.std.specs.Prelude.{ℕ, Bool, List, ◌==◌, ◌||◌, ◌&&◌, ◌-◌, if◌then◌else◌, nat_le, codes}
use Rattle.std.specs.List.{list_any}
use Rattle.dpi_lex.specs.declared.language.Language.{Language}
use Rattle.dpi_lex.specs.declared.language.Language.TheVariants.{SystemVerilog, C}

-- the byte is one of those
abbrev pub is_among : List ℕ → ℕ → Bool
is_among bytes b = list_any (λ c. b == c) bytes

-- a space, a tab or the byte 13
abbrev pub is_blank : ℕ → Bool
is_blank b = is_among (codes " \t\r") b

-- `0` to `9`
abbrev pub is_digit : ℕ → Bool
is_digit b = nat_le 48 b && nat_le b 57

-- `A` to `Z`
abbrev pub is_upper : ℕ → Bool
is_upper b = nat_le 65 b && nat_le b 90

-- `a` to `z`
abbrev pub is_lower : ℕ → Bool
is_lower b = nat_le 97 b && nat_le b 122

-- a letter of either case
abbrev pub is_letter : ℕ → Bool
is_letter b = is_upper b || is_lower b

-- `_`
abbrev pub is_underscore : ℕ → Bool
is_underscore b = is_among (codes "_") b

-- what a name begins with: a letter or `_`
abbrev pub is_name_start : ℕ → Bool
is_name_start b = is_letter b || is_underscore b

-- what a name goes on with: a letter, `_` or a digit, and in SystemVerilog also `$`
abbrev pub is_name_byte : Language → ℕ → Bool
is_name_byte SystemVerilog b = is_name_start b || is_digit b || is_among (codes "$") b
is_name_byte C b = is_name_start b || is_digit b

-- what opens and closes a string
abbrev pub is_quote : ℕ → Bool
is_quote b = is_among (codes "\"") b

-- `'`
abbrev pub is_apostrophe : ℕ → Bool
is_apostrophe b = is_among (codes "'") b

-- what begins an escape
abbrev pub is_backslash : ℕ → Bool
is_backslash b = is_among (codes "\\") b

-- what may follow a backslash
abbrev pub is_escape : Language → ℕ → Bool
is_escape SystemVerilog b = is_among (codes "nt\\\"") b
is_escape C b = is_among (codes "nt\\'\"0") b

-- the value of a digit in any base: letters of either case go on from 10; 36 where it's none
abbrev pub digit_value : ℕ → ℕ
digit_value b =
    if is_digit b
    then b - 48
    else (if is_lower b then b - 87 else (if is_upper b then b - 55 else 36))
