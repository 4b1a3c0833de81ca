-- Unary operators.
use Rattle.std.specs.Prelude.{ℕ, neg_ℤ, not, Result, Ok}
use Rattle.c_base.specs.declared.base.CBase.{CBase}
use Rattle.c_base.specs.Base.{promoted}
use Rattle.c_eval.specs.declared.operator.CUnOp.{CUnOp}
use Rattle.c_eval.specs.declared.operator.CUnOp.TheVariants.{Minus, Not, Complement}
use Rattle.c_eval.specs.declared.trap.OpTrap.{OpTrap}
use Rattle.c_eval.specs.declared.value.CValue.{CValue}
use Rattle.c_eval.specs.Whole.{value_of, fitted}
use Rattle.c_eval.specs.Operators.{inverted}
use Rattle.c_eval.specs.Values.{truth, typed, bits_in, is_set}
use Rattle.c_eval.specs.Numbers.{bits_at}

-- `-` and `~` of a number of a promoted type by its bits; the last line is `+`
abbrev pub on_promoted : CUnOp → CBase → ℕ → Result ℕ OpTrap
on_promoted Minus of bits = fitted of (neg_ℤ (value_of of bits))
on_promoted Complement of bits = Ok (inverted of bits)
on_promoted op of bits = Ok bits

-- an operator on a number, at the promoted type
abbrev pub at_promoted : CUnOp → CBase → ℕ → Result CValue OpTrap
at_promoted op s a =
    let of = promoted s in typed of (on_promoted op of (bits_at s of a))

-- a unary operator
abbrev pub unary_of : CUnOp → CValue → Result CValue OpTrap
unary_of Not a = Ok (truth (not (is_set a.cell)))
unary_of op a = at_promoted op a.of.base (bits_in a.cell)
