-- The types of numbers, strings and `null`.
use Rattle.std.specs.Prelude.{ℕ, None, List}
use Rattle.dpi_literal.specs.SvNumber.{form_of}
use Rattle.sv_typing.specs.declared.types.ExprType.TheVariants as types
use Rattle.sv_typing.specs.declared.types.Operand.{Operand}
use Rattle.sv_typing.specs.Judged.{operand}

-- a number has its size, 32 bits without one and 1 as a fill; x and z digits make it four-state
abbrev pub number_operand : List ℕ → Operand
number_operand bytes = operand (types.Bits (form_of bytes).width (form_of bytes).signed (form_of bytes).four) None

abbrev pub text_operand : Operand
text_operand = operand types.Text None

abbrev pub null_operand : Operand
null_operand = operand types.Chandle None
