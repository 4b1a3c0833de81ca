use Rattle.std.specs.Prelude.{ℕ, Bool, List, ◌+◌, ◌-◌, ◌*◌, if◌then◌else◌, nat_lt, length}
use Rattle.std.specs.Prelude.{slice_index, fold}
use Rattle.dpi_lex.specs.declared.fault.LexFault.TheVariants.{BadNumber}
use Rattle.dpi_lex.specs.declared.form.Form.{Form}
use Rattle.dpi_lex.specs.declared.form.Form.TheVariants.{Whole, Faulty}
use Rattle.dpi_lex.specs.declared.token.Kind.TheVariants.{Number}
use Rattle.dpi_lex.specs.Bytes.{is_digit, digit_value}

-- the byte is a digit of that base
abbrev pub is_digit_in : ℕ → ℕ → Bool
is_digit_in base b = nat_lt (digit_value b) base

-- a value with one more byte behind its digits; what is no digit of the base adds nothing
abbrev pub next_value : ℕ → ℕ → ℕ → ℕ
next_value base value b = if is_digit_in base b then value * base + digit_value b else value

-- the value of the digits of that base among the bytes
abbrev pub value_in : ℕ → List ℕ → ℕ
value_in base bytes = fold (next_value base) 0 bytes

-- the bytes end with a decimal digit
abbrev pub ends_in_digit : List ℕ → Bool
ends_in_digit bytes = is_digit (slice_index bytes (length bytes - 1))

-- a token where the rules of numbers hold, else a bad number
abbrev pub number_if : Bool → Form
number_if test = if test then Whole Number else Faulty (BadNumber 0)
