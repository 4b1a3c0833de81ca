-- The pair of files that the program runs: one import that adds.
use Rattle.std.specs.Prelude.{ℕ, ℤ, ◌+ℤ◌, ◌&&◌, not, List, [], ◌∷◌, Option, Some, None, codes, option_map, option_and_then, if◌then◌else◌}
use Rattle.std.specs.Int.{cast_signed, w32}
use Rattle.std.specs.Str.{bytes_eq}
use Rattle.dpi_lex.specs.Words.{Word}
use Rattle.dpirun.specs.Form.{holes_of}
use Rattle.dpirun.specs.Literal.{value_of}
use Rattle.dpirun.specs.declared.pair.Call.{Call}
use Rattle.dpirun.specs.declared.pair.Body.{Body}
use Rattle.dpirun.specs.declared.pair.Parameter.{Parameter}
use Rattle.dpirun.specs.declared.pair.Parameter.TheVariants.{First, Second}

-- the words of the SystemVerilog file, with a capital letter for each name, and N for a number
unfoldable pub sv_form : List (List ℕ)
sv_form =
    codes "module" ∷ codes "M" ∷ codes ";" ∷ codes "import" ∷ codes "\"DPI-C\"" ∷ codes "function" ∷
    codes "int" ∷ codes "F" ∷ codes "(" ∷ codes "input" ∷ codes "int" ∷ codes "A" ∷ codes "," ∷ codes "input" ∷
    codes "int" ∷ codes "B" ∷ codes ")" ∷ codes ";" ∷ codes "initial" ∷ codes "$display" ∷ codes "(" ∷
    codes "\"%0d\"" ∷ codes "," ∷ codes "F" ∷ codes "(" ∷ codes "N" ∷ codes "," ∷ codes "N" ∷ codes ")" ∷
    codes ")" ∷ codes ";" ∷ codes "endmodule" ∷ []

-- the words of the C file
unfoldable pub c_form : List (List ℕ)
c_form =
    codes "int" ∷ codes "F" ∷ codes "(" ∷ codes "int" ∷ codes "P" ∷ codes "," ∷ codes "int" ∷ codes "Q" ∷
    codes ")" ∷ codes "{" ∷ codes "return" ∷ codes "R" ∷ codes "+" ∷ codes "R" ∷ codes ";" ∷ codes "}" ∷ []

-- the number of the `+` among the words of the C file, from 0
abbrev pub plus : ℕ
plus = 12

-- the call in the SystemVerilog file: the called name, and the values of both numbers
pub record CallOf : Type 0 where
  pub function : List ℕ
  pub left : ℕ
  pub right : ℕ

-- a call as the program keeps it
abbrev pub call_shown : Call → CallOf
call_shown c = record { function = c.function.items; left = c.left; right = c.right }

-- a call with these numbers
abbrev pub with_numbers : List ℕ → Option ℕ → Option ℕ → Option CallOf
with_numbers function left right =
    option_and_then (λ l. option_map (λ r. record { function = function; left = l; right = r }) right) left

-- the module, the function, both formals, the function again, and both numbers: the function has one
-- name, and the formals have two
abbrev pub call_from : List (List ℕ) → Option CallOf
call_from (m ∷ f ∷ a ∷ b ∷ g ∷ n ∷ k ∷ []) =
    if bytes_eq f g && not (bytes_eq a b) then with_numbers f (value_of n) (value_of k) else None
call_from _ = None

-- the call of a SystemVerilog file, where it has the form
abbrev pub call_of : List Word → Option CallOf
call_of ws = option_and_then call_from (holes_of sv_form ws)

-- which of two parameters the name is
abbrev pub parameter_of : List ℕ → List ℕ → List ℕ → Option Parameter
parameter_of p q name = if bytes_eq name p then Some First else if bytes_eq name q then Some Second else None

-- a sum of these two
abbrev pub with_operands : Option Parameter → Option Parameter → Option Body
with_operands left right = option_and_then (λ l. option_map (λ r. record { left = l; right = r }) right) left

-- the function, both parameters, and both operands: the function has this name, the parameters have
-- two, and each operand is one of them
abbrev pub body_from : List ℕ → List (List ℕ) → Option Body
body_from function (f ∷ p ∷ q ∷ r ∷ s ∷ []) =
    if bytes_eq f function && not (bytes_eq p q) then with_operands (parameter_of p q r) (parameter_of p q s) else None
body_from function _ = None

-- the body of a C file, where it has the form
abbrev pub body_of : List ℕ → List Word → Option Body
body_of function ws = option_and_then (body_from function) (holes_of c_form ws)

-- what a parameter gets: the 32-bit signed value of its actual
abbrev pub argument : ℕ → ℕ → Parameter → ℤ
argument left right First = cast_signed w32 left
argument left right Second = cast_signed w32 right

-- what the function returns to a call with these actuals
abbrev pub sum_of : ℕ → ℕ → Body → ℤ
sum_of left right body = argument left right body.left +ℤ argument left right body.right
