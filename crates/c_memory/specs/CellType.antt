-- Types of cells, and which values are of them.
use Rattle.std.specs.Prelude.{ℕ, ◌*◌, ◌-◌, ◌^◌, ◌==◌, Bool, true, false, ◌||◌, Option, Some, None}
use Rattle.std.specs.Prelude.{IsTrue, is_some}
use Rattle.dpi_shape.specs.declared.leaf.Leaf.{Leaf}
use Rattle.dpi_shape.specs.declared.leaf.Leaf.TheVariants as Leaves
use Rattle.c_memory.specs.declared.pointer.Pointer.TheVariants.{Null}
use Rattle.c_memory.specs.declared.ccell.CCell.{CCell}
use Rattle.c_memory.specs.declared.ccell.CCell.TheVariants as Cells
use Rattle.c_memory.specs.declared.cell_type.CellType.{CellType}
use Rattle.c_memory.specs.declared.cell_type.CellType.TheVariants.{Number, Bit, Logic, Pointer}
use Rattle.c_memory.specs.declared.cell_type.CellType.TheVariants.{Handle, Scope, LogicPair}

-- a number of 1, 2, 4 or 8 bytes, or another type
abbrev pub IsCellType : CellType → Type 0
IsCellType (Number bytes signed) = IsTrue (bytes == 1 || bytes == 2 || bytes == 4 || bytes == 8)
IsCellType other = Unit {0}

-- the bytes by which C accesses a number of this type, if it is one
abbrev pub number_bytes : CellType → Option ℕ
number_bytes (Number bytes signed) = Some bytes
number_bytes Bit = Some 1
number_bytes Logic = Some 1
number_bytes other = None

-- both are numbers, of as many bytes
abbrev pub same_bytes : Option ℕ → Option ℕ → Bool
same_bytes (Some m) (Some n) = m == n
same_bytes m n = false

-- the one type accesses cells of the other
abbrev pub same_type : CellType → CellType → Bool
same_type Pointer Pointer = true
same_type Handle Handle = true
same_type Scope Scope = true
same_type LogicPair LogicPair = true
same_type a b = same_bytes (number_bytes a) (number_bytes b)

-- the value is one of the type
abbrev pub fits : CellType → CCell → Bool
fits of (Cells.Number n) = is_some (number_bytes of)
fits of (Cells.Pointer p) = same_type of Pointer
fits of (Cells.Handle h) = same_type of Handle
fits of (Cells.Scope s) = same_type of Scope
fits of (Cells.Pair w) = same_type of LogicPair

-- all bits of a number, or of one member of a pair, as a number
abbrev pub all_bits : CellType → ℕ
all_bits (Number bytes signed) = 2 ^ (8 * bytes) - 1
all_bits Bit = 255
all_bits Logic = 255
all_bits LogicPair = 2 ^ 32 - 1
all_bits other = 0

-- the zero of the type
abbrev pub zero_of : CellType → CCell
zero_of Pointer = Cells.Pointer Null
zero_of Handle = Cells.Handle 0
zero_of Scope = Cells.Scope None
zero_of LogicPair = Cells.Pair (record { aval = 0; bval = 0 })
zero_of number = Cells.Number 0

-- the type of C's cells for elements of the leaf
abbrev pub type_of_leaf : Leaf → CellType
type_of_leaf (Leaves.Bit signed) = Bit
type_of_leaf (Leaves.Logic signed) = Logic
type_of_leaf (Leaves.Byte signed) = Number 1 signed
type_of_leaf (Leaves.Short signed) = Number 2 signed
type_of_leaf (Leaves.Int signed) = Number 4 signed
type_of_leaf (Leaves.Long signed) = Number 8 signed
type_of_leaf (Leaves.BitVec range signed) = Number 4 false
type_of_leaf (Leaves.LogicVec range signed) = LogicPair
