-- Arithmetic and order of pointers.
use Rattle.std.specs.Prelude.{ℤ, pos, ◌+ℤ◌, ◌-ℤ◌, unsigned_abs, Option, Some, None}
use Rattle.std.specs.Prelude.{Result, Ok, Err}
use Rattle.std.specs.Ordering.{nat_cmp}
use Rattle.c_base.specs.declared.base.CBase.TheVariants.{LongLong}
use Rattle.c_base.specs.declared.ctype.CType.{CType}
use Rattle.c_memory.specs.declared.ccell.CCell.TheVariants as Cells
use Rattle.c_memory.specs.declared.pointer.Pointer.{Pointer}
use Rattle.c_memory.specs.declared.pointer.Pointer.TheVariants.{At}
use Rattle.c_memory.specs.declared.trap.MemTrap.{MemTrap}
use Rattle.c_memory.specs.Pointer.{serial_of, offset_of}
use Rattle.c_memory.specs.Memory.{CMemory, first_trap, move_order, pair_order}
use Rattle.c_eval.specs.declared.operator.CBinOp.{CBinOp}
use Rattle.c_eval.specs.declared.trap.OpTrap.{OpTrap}
use Rattle.c_eval.specs.declared.trap.OpTrap.TheVariants.{Memory}
use Rattle.c_eval.specs.declared.value.CValue.{CValue}
use Rattle.c_eval.specs.Whole.{bits_of}
use Rattle.c_eval.specs.Operators.{accepts}
use Rattle.c_eval.specs.Values.{number, truth}

-- the value, unless there is a trap
abbrev pub unless : {A : Type 0} → Option MemTrap → A → Result A MemTrap
unless None value = Ok value
unless (Some trap) value = Err trap

-- an operator's answer, with a trap of memory as its trap
abbrev pub of_memory : Result CValue MemTrap → Result CValue OpTrap
of_memory (Ok value) = Ok value
of_memory (Err trap) = Err (Memory trap)

-- the pointer so many cells on
abbrev pub on_by : Pointer → ℤ → Pointer
on_by p n = At (serial_of p) (unsigned_abs (pos (offset_of p) +ℤ n))

-- the pointer so many cells on, or what stops the move
abbrev pub far : CMemory → Pointer → ℤ → Result Pointer MemTrap
far m p n = unless (first_trap (move_order m p n)) (on_by p n)

-- a pointer plus a number, at the pointer's type
abbrev pub moved : CMemory → CType → Pointer → ℤ → Result CValue OpTrap
moved m of p n =
    of_memory (unless (first_trap (move_order m p n))
    (record { of = of; cell = Cells.Pointer (on_by p n) }))

-- `p - q` in cells, a `long long`
abbrev pub distance : CMemory → Pointer → Pointer → Result CValue OpTrap
distance m p q =
    of_memory (unless (first_trap (pair_order m p q))
    (number LongLong (bits_of LongLong (pos (offset_of p) -ℤ pos (offset_of q)))))

-- a comparison of two pointers into one object
abbrev pub ordered : CMemory → CBinOp → Pointer → Pointer → Result CValue OpTrap
ordered m op p q =
    of_memory (unless (first_trap (pair_order m p q))
    (truth (accepts op (nat_cmp (offset_of p) (offset_of q)))))
