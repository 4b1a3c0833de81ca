-- Operators between two operands (ISO C 6.5.5 to 6.5.14), and chains of them.
use Rattle.std.specs.Prelude.{◌≡◌, ℕ, Bool, ◌&&◌, ◌||◌, if◌then◌else◌, Option, Some, None, ◌++◌}
use Rattle.dpi_rules.specs.Order.{joined}
use Rattle.dpi_rules.specs.Least.{least}
use Rattle.c_base.specs.declared.base.CBase.TheVariants.{Int, LongLong}
use Rattle.c_base.specs.declared.ctype.CType.{CType}
use Rattle.c_base.specs.Base.{promoted, common}
use Rattle.c_base.specs.Types.{is_number, is_pointer}
use Rattle.c_tree.specs.declared.operators.BinaryOperator.{BinaryOperator}
use Rattle.c_tree.specs.declared.operators.BinaryOperator.TheVariants as operators
use Rattle.c_typing.specs.declared.place.Place.{Place}
use Rattle.c_typing.specs.declared.operand.Operand.{Operand}
use Rattle.c_typing.specs.declared.chain.Typed.{Typed}
use Rattle.c_typing.specs.declared.chain.Sign.{Sign}
use Rattle.c_typing.specs.Judged.{Judged, unless, judged, passed_over}
use Rattle.c_typing.specs.Operands.{value, plain_value, is_null}
use Rattle.c_typing.specs.Pointers.{is_opaque, is_scalar, is_void_pointer, is_cell_pointer, points_alike}
use Rattle.c_typing.specs.Conversions.{same_opaque}

-- ---- how strongly an operator binds (ISO C 6.5, from `||` up to `*`)

abbrev pub rank : BinaryOperator → ℕ
rank operators.OrOr = 1
rank operators.AndAnd = 2
rank operators.Or = 3
rank operators.Xor = 4
rank operators.And = 5
rank operators.Equal = 6
rank operators.NotEqual = 6
rank operators.Less = 7
rank operators.LessOrEqual = 7
rank operators.Greater = 7
rank operators.GreaterOrEqual = 7
rank operators.ShiftLeft = 8
rank operators.ShiftRight = 8
rank operators.Plus = 9
rank operators.Minus = 9
rank operators.Star = 10
rank operators.Slash = 10
rank operators.Percent = 10

-- ---- which operands an operator takes

abbrev pub both_numbers : CType → CType → Bool
both_numbers s t = is_number s && is_number t

-- a pointer to cells, and a number by which it is moved
abbrev pub moves : CType → CType → Bool
moves s t = is_cell_pointer s && is_number t

-- `+`: two numbers, or a pointer and a number in either order
abbrev pub adds : CType → CType → Bool
adds s t = both_numbers s t || (moves s t || moves t s)

-- two pointers to cells of one type
abbrev pub subtracts_pointers : CType → CType → Bool
subtracts_pointers s t = (is_cell_pointer s && is_cell_pointer t) && points_alike s t

-- `-`: two numbers, a pointer and a number, or two pointers
abbrev pub subtracts : CType → CType → Bool
subtracts s t = both_numbers s t || (moves s t || subtracts_pointers s t)

-- two pointers to one type
abbrev pub pointers_alike : CType → CType → Bool
pointers_alike s t = (is_pointer s && is_pointer t) && points_alike s t

-- an ordering: two numbers, or two pointers to one type
abbrev pub orders : CType → CType → Bool
orders s t = both_numbers s t || pointers_alike s t

-- two pointers, one of them to void
abbrev pub meets_void : CType → CType → Bool
meets_void s t = (is_pointer s && is_pointer t) && (is_void_pointer s || is_void_pointer t)

-- 0 or NULL, and a pointer or an opaque type
abbrev pub null_with : Operand → CType → Bool
null_with a t = is_null a && (is_pointer t || is_opaque t)

-- equality: two numbers, two pointers to one type or with a `void *` among them, an opaque type with itself, and 0 or NULL with a pointer
-- or an opaque type
abbrev pub equals : Operand → Operand → Bool
equals a b =
    (orders a.of b.of || meets_void a.of b.of) || (same_opaque a.of b.of || (null_with a b.of || null_with b a.of))

abbrev pub both_scalars : CType → CType → Bool
both_scalars s t = is_scalar s && is_scalar t

-- the operator takes these operands; the last line is those that take numbers alone
abbrev pub takes : BinaryOperator → Operand → Operand → Bool
takes operators.Plus a b = adds a.of b.of
takes operators.Minus a b = subtracts a.of b.of
takes operators.Less a b = orders a.of b.of
takes operators.LessOrEqual a b = orders a.of b.of
takes operators.Greater a b = orders a.of b.of
takes operators.GreaterOrEqual a b = orders a.of b.of
takes operators.Equal a b = equals a b
takes operators.NotEqual a b = equals a b
takes operators.AndAnd a b = both_scalars a.of b.of
takes operators.OrOr a b = both_scalars a.of b.of
takes op a b = both_numbers a.of b.of

-- ---- what it gives

-- the common type of two numbers, or the type of the pointer
abbrev pub sum_type : Operand → Operand → Operand
sum_type a b =
    if is_pointer a.of then value a.of
    else (if is_pointer b.of then value b.of else plain_value (common a.of.base b.of.base))

-- of two pointers a `long long`, else as for a sum
abbrev pub difference_type : Operand → Operand → Operand
difference_type a b = if is_pointer b.of then plain_value LongLong else sum_type a b

-- comparisons and `&&` and `||` give an `int`, shifts the promoted left type; the last line is arithmetic at the common type
abbrev pub gives : BinaryOperator → Operand → Operand → Operand
gives operators.Plus a b = sum_type a b
gives operators.Minus a b = difference_type a b
gives operators.ShiftLeft a b = plain_value (promoted a.of.base)
gives operators.ShiftRight a b = plain_value (promoted a.of.base)
gives operators.Less a b = plain_value Int
gives operators.LessOrEqual a b = plain_value Int
gives operators.Greater a b = plain_value Int
gives operators.GreaterOrEqual a b = plain_value Int
gives operators.Equal a b = plain_value Int
gives operators.NotEqual a b = plain_value Int
gives operators.AndAnd a b = plain_value Int
gives operators.OrOr a b = plain_value Int
gives op a b = plain_value (common a.of.base b.of.base)

-- rule 10: operands that the operator doesn't take
abbrev pub binary_rule : BinaryOperator → Operand → Operand → Option ℕ
binary_rule op a b = unless (takes op a b) 10

-- two operands with an operator between, if both have types
abbrev pub binary : Place → BinaryOperator → Option Operand → Option Operand → Judged
binary p op None b = passed_over
binary p op (Some a) None = passed_over
binary p op (Some a) (Some b) = judged p (binary_rule op a b) (gives op a b)

-- ---- chains: what the parts of a chain break is kept beside their types

abbrev pub binary_judged : Sign → Judged → Judged → Judged
binary_judged s a b =
    let j = binary s.place s.operator a.value b.value in
    record { found = (a.found ++ b.found) ++ j.found; value = j.value }

-- the least of what a part breaks, and its type
abbrev pub typed : Judged → Typed
typed j = record { found = least j.found; value = j.value }

abbrev pub binary_typed : Sign → Typed → Typed → Typed
binary_typed s a b =
    let j = binary s.place s.operator a.value b.value in
    record { found = joined (joined a.found b.found) (least j.found); value = j.value }

-- what is kept of two operands with an operator between comes from what is kept of each
abbrev pub TypedJoins : Type 0
TypedJoins = (s : Sign) (a b : Judged) → typed (binary_judged s a b) ≡ binary_typed s (typed a) (typed b)
