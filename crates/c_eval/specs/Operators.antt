-- The operators on numbers of one type: the mathematical result, or what stops it.
use Rattle.std.specs.Prelude.{ℕ, ◌^◌, ◌-◌, ℤ, pos, ◌*ℤ◌, Bool, true, false}
use Rattle.std.specs.Prelude.{not, ◌||◌, int_le, int_lt, int_div, int_rem, unsigned_abs}
use Rattle.std.specs.Prelude.{if◌then◌else◌, Result, Ok, Err}
use Rattle.std.specs.Int.{int_shr}
use Rattle.std.specs.Ordering.{int_eq, is_lt, is_gt, is_eq}
use Rattle.std.specs.declared.cmp.Ordering.{Ordering}
use Rattle.c_base.specs.declared.base.CBase.{CBase}
use Rattle.c_base.specs.Base.{width}
use Rattle.c_eval.specs.declared.operator.CBinOp.{CBinOp}
use Rattle.c_eval.specs.declared.operator.CBinOp.TheVariants.{Less, LessEqual, Greater}
use Rattle.c_eval.specs.declared.operator.CBinOp.TheVariants.{GreaterEqual, Equal, NotEqual}
use Rattle.c_eval.specs.declared.trap.OpTrap.{OpTrap}
use Rattle.c_eval.specs.declared.trap.OpTrap.TheVariants.{SignedOverflow, DivideByZero, ShiftRange}
use Rattle.c_eval.specs.Whole.{size, bits_of, overflows, fitted}

-- `/`, rounded toward zero
abbrev pub quotient : CBase → ℤ → ℤ → Result ℕ OpTrap
quotient of x y = if int_eq y (pos 0) then Err DivideByZero else fitted of (int_div x y)

-- what a division leaves, with the sign of the left number; an overflow where the type doesn't have
-- the quotient
abbrev pub left_by : CBase → ℤ → ℤ → Result ℕ OpTrap
left_by of x y =
    if overflows of (int_div x y) then Err SignedOverflow else Ok (bits_of of (int_rem x y))

-- `%`
abbrev pub remainder : CBase → ℤ → ℤ → Result ℕ OpTrap
remainder of x y = if int_eq y (pos 0) then Err DivideByZero else left_by of x y

-- the count is negative, or not less than the width
abbrev pub is_past : CBase → ℤ → Bool
is_past of count = int_lt count (pos 0) || int_le (pos (width of)) count

-- `<<`: the number times 2 to the count; an overflow for a negative number
abbrev pub shifted_left : CBase → ℤ → ℤ → Result ℕ OpTrap
shifted_left of x count =
    if is_past of count then Err ShiftRange
    else if int_lt x (pos 0) then Err SignedOverflow
    else fitted of (x *ℤ pos (2 ^ unsigned_abs count))

-- `>>`: the number divided by 2 to the count, rounded down
abbrev pub shifted_right : CBase → ℤ → ℤ → Result ℕ OpTrap
shifted_right of x count =
    if is_past of count then Err ShiftRange
    else Ok (bits_of of (int_shr x (unsigned_abs count)))

-- `~`: all bits inverted
abbrev pub inverted : CBase → ℕ → ℕ
inverted of bits = size of - 1 - bits

-- a comparison is true of operands in this order
abbrev pub accepts : CBinOp → Ordering → Bool
accepts Less o = is_lt o
accepts LessEqual o = not (is_gt o)
accepts Greater o = is_gt o
accepts GreaterEqual o = not (is_lt o)
accepts Equal o = is_eq o
accepts NotEqual o = not (is_eq o)
accepts other o = false

-- the operator compares
abbrev pub is_comparison : CBinOp → Bool
is_comparison Less = true
is_comparison LessEqual = true
is_comparison Greater = true
is_comparison GreaterEqual = true
is_comparison Equal = true
is_comparison NotEqual = true
is_comparison other = false
