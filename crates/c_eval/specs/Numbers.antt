-- Binary operators on two numbers: at which type they work, and what they give.
use Rattle.std.specs.Prelude.{ℕ, ℤ, ◌+ℤ◌, ◌-ℤ◌, ◌*ℤ◌, not, ◌&&◌, ◌||◌, ◌==◌, if◌then◌else◌}
use Rattle.std.specs.Prelude.{bit_and, bit_or, bit_xor, Result, Ok}
use Rattle.std.specs.Ordering.{int_cmp}
use Rattle.c_base.specs.declared.base.CBase.{CBase}
use Rattle.c_base.specs.declared.base.CBase.TheVariants.{Int}
use Rattle.c_base.specs.Base.{promoted, common}
use Rattle.c_eval.specs.declared.operator.CBinOp.{CBinOp}
use Rattle.c_eval.specs.declared.operator.CBinOp.TheVariants.{Mul, Div, Rem, Add, Sub, Shl, Shr}
use Rattle.c_eval.specs.declared.operator.CBinOp.TheVariants.{BitAnd, BitXor, BitOr, And, Or}
use Rattle.c_eval.specs.declared.trap.OpTrap.{OpTrap}
use Rattle.c_eval.specs.declared.value.CValue.{CValue}
use Rattle.c_eval.specs.Whole.{value_of, bits_of, fitted}
use Rattle.c_eval.specs.Operators.{quotient, remainder, shifted_left, shifted_right, accepts}
use Rattle.c_eval.specs.Operators.{is_comparison}
use Rattle.c_eval.specs.Values.{truth, typed}

-- an operator on two numbers of the common type, by their bits; the last line is the comparisons
abbrev pub arithmetic : CBinOp → CBase → ℕ → ℕ → Result ℕ OpTrap
arithmetic Mul of a b = fitted of (value_of of a *ℤ value_of of b)
arithmetic Div of a b = quotient of (value_of of a) (value_of of b)
arithmetic Rem of a b = remainder of (value_of of a) (value_of of b)
arithmetic Add of a b = fitted of (value_of of a +ℤ value_of of b)
arithmetic Sub of a b = fitted of (value_of of a -ℤ value_of of b)
arithmetic BitAnd of a b = Ok (bit_and a b)
arithmetic BitXor of a b = Ok (bit_xor a b)
arithmetic BitOr of a b = Ok (bit_or a b)
arithmetic op of a b =
    Ok (if accepts op (int_cmp (value_of of a) (value_of of b)) then 1 else 0)

-- a shift of a number of a promoted type by its bits; the last line is `>>`
abbrev pub shifted : CBinOp → CBase → ℕ → ℤ → Result ℕ OpTrap
shifted Shl of a count = shifted_left of (value_of of a) count
shifted op of a count = shifted_right of (value_of of a) count

-- the bits of the number at another type
abbrev pub bits_at : CBase → CBase → ℕ → ℕ
bits_at from to bits = bits_of to (value_of from bits)

-- a shift works at the promoted type of its left operand, by the value of its right one
abbrev pub shift_of : CBinOp → CBase → ℕ → CBase → ℕ → Result CValue OpTrap
shift_of op s a t b =
    typed (promoted s) (shifted op (promoted s) (bits_at s (promoted s) a) (value_of t b))

-- the others work on both operands at their common type, and give that type; a comparison `int`
abbrev pub at_common : CBinOp → CBase → ℕ → CBase → ℕ → Result CValue OpTrap
at_common op s a t b =
    let of = common s t in
    let kind = if is_comparison op then Int else of in
    typed kind (arithmetic op of (bits_at s of a) (bits_at t of b))

-- a binary operator on two numbers by their types and bits
abbrev pub on_numbers : CBinOp → CBase → ℕ → CBase → ℕ → Result CValue OpTrap
on_numbers Shl s a t b = shift_of Shl s a t b
on_numbers Shr s a t b = shift_of Shr s a t b
on_numbers And s a t b = Ok (truth (not (a == 0) && not (b == 0)))
on_numbers Or s a t b = Ok (truth (not (a == 0) || not (b == 0)))
on_numbers op s a t b = at_common op s a t b
