-- Binary operators.
use Rattle.std.specs.Prelude.{neg_ℤ, false, not, ◌&&◌, ◌||◌, Result, Ok}
use Rattle.c_memory.specs.declared.ccell.CCell.{CCell}
use Rattle.c_memory.specs.declared.ccell.CCell.TheVariants.{Number, Pointer}
use Rattle.c_memory.specs.Memory.{CMemory}
use Rattle.c_base.specs.declared.ctype.CType.{CType}
use Rattle.c_eval.specs.declared.operator.CBinOp.{CBinOp}
use Rattle.c_eval.specs.declared.operator.CBinOp.TheVariants.{Add, Sub, Equal, NotEqual, And, Or}
use Rattle.c_eval.specs.declared.trap.OpTrap.{OpTrap}
use Rattle.c_eval.specs.declared.value.CValue.{CValue}
use Rattle.c_eval.specs.Whole.{value_of}
use Rattle.c_eval.specs.Values.{truth, bits_in, is_set, same}
use Rattle.c_eval.specs.Numbers.{on_numbers}
use Rattle.c_eval.specs.Pointers.{moved, distance, ordered}

-- a pointer plus a number, in either order
abbrev pub sum_of : CMemory → CType → CCell → CType → CCell → Result CValue OpTrap
sum_of m s (Pointer p) t b = moved m s p (value_of t.base (bits_in b))
sum_of m s a t (Pointer p) = moved m t p (value_of s.base (bits_in a))
sum_of m s a t b = Ok (truth false)

-- a pointer minus a pointer or a number
abbrev pub difference_of : CMemory → CType → CCell → CType → CCell → Result CValue OpTrap
difference_of m s (Pointer p) t (Pointer q) = distance m p q
difference_of m s (Pointer p) t b = moved m s p (neg_ℤ (value_of t.base (bits_in b)))
difference_of m s a t b = Ok (truth false)

-- `+` where an operand is a pointer
abbrev pub added : CMemory → CValue → CValue → Result CValue OpTrap
added m a b = sum_of m a.of a.cell b.of b.cell

-- `-` where the left operand is a pointer
abbrev pub subtracted : CMemory → CValue → CValue → Result CValue OpTrap
subtracted m a b = difference_of m a.of a.cell b.of b.cell

-- an ordering of two pointers
abbrev pub compared : CMemory → CBinOp → CCell → CCell → Result CValue OpTrap
compared m op (Pointer p) (Pointer q) = ordered m op p q
compared m op a b = Ok (truth false)

-- an operator on two values that aren't both numbers; the last line is the orderings
abbrev pub on_scalars : CMemory → CBinOp → CValue → CValue → Result CValue OpTrap
on_scalars m Add a b = added m a b
on_scalars m Sub a b = subtracted m a b
on_scalars m Equal a b = Ok (truth (same a.cell b.cell))
on_scalars m NotEqual a b = Ok (truth (not (same a.cell b.cell)))
on_scalars m And a b = Ok (truth (is_set a.cell && is_set b.cell))
on_scalars m Or a b = Ok (truth (is_set a.cell || is_set b.cell))
on_scalars m op a b = compared m op a.cell b.cell

-- a binary operator by the cells of its operands
abbrev pub by_cells : CMemory → CBinOp → CValue → CCell → CValue → CCell → Result CValue OpTrap
by_cells m op a (Number x) b (Number y) = on_numbers op a.of.base x b.of.base y
by_cells m op a c b d = on_scalars m op a b

-- a binary operator
abbrev pub binary_of : CMemory → CBinOp → CValue → CValue → Result CValue OpTrap
binary_of m op a b = by_cells m op a a.cell b b.cell
