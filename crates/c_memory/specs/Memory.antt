-- C memory, and the order of the traps.
use Rattle.std.specs.Prelude.{◌≡◌, ℕ, ◌<◌, ℤ, pos, ◌+ℤ◌, int_lt, Bool, true, false, not, ◌||◌, ◌==◌}
use Rattle.std.specs.Prelude.{nat_le, if◌then◌else◌, Option, Some, None, is_none, IsSome}
use Rattle.std.specs.Prelude.{IfSome, IsTrue}
use Rattle.std.specs.Prelude.{List, [], ◌∷◌, ◌++◌, length, slice_index_or, slice_set}
use Rattle.std.specs.Option.{option_map, option_map_or}
use Rattle.c_memory.specs.declared.ccell.CCell.{CCell}
use Rattle.c_memory.specs.declared.ccell.CCell.TheVariants.{Pair}
use Rattle.c_memory.specs.declared.cell_type.CellType.{CellType}
use Rattle.c_memory.specs.declared.pointer.Pointer.{Pointer}
use Rattle.c_memory.specs.declared.trap.MemTrap.{MemTrap}
use Rattle.c_memory.specs.declared.trap.MemTrap.TheVariants.{Null, Dead, OutOfBounds, TypeMismatch}
use Rattle.c_memory.specs.declared.trap.MemTrap.TheVariants.{ReadOnly, Uninitialised}
use Rattle.c_memory.specs.declared.trap.MemTrap.TheVariants.{DifferentObjects}
use Rattle.c_memory.specs.Pointer.{is_null, serial_of, offset_of}
use Rattle.dpi_shape.specs.declared.shape.Shape.{Shape}
use Rattle.dpi_shape.specs.Shape.{leaf_of, cells_of}
use Rattle.c_memory.specs.CellType.{same_type, fits, type_of_leaf}
use Rattle.c_memory.specs.Object.{CObject, with_value, fresh_object}

-- the objects by number, None where there is none any more; number 0 is no object's. And how many
-- objects can begin without memory
pub record CMemory : Type 0 where
  pub objects : List (Option CObject)
  pub spare : ℕ

-- the object of this number, if it is alive
abbrev pub object_at : CMemory → ℕ → Option CObject
object_at m serial = slice_index_or m.objects serial None

-- the cells of an object that is alive
abbrev pub cells_at : CMemory → ℕ → List (Option CCell)
cells_at m serial = option_map_or (λ o. o.cells) (object_at m serial) []

-- the value in a cell, if it has one
abbrev pub value_at : CMemory → Pointer → Option CCell
value_at m p = slice_index_or (cells_at m (serial_of p)) (offset_of p) None

-- an object of a shape as it begins: C's types for its cells, each of them 0
abbrev pub shaped_object : Shape → Bool → CObject
shaped_object s writable =
    fresh_object (type_of_leaf (leaf_of s)) (Some (leaf_of s)) (cells_of s) writable true

-- the memory after a store into a cell of this object, which keeps the cell's used bits
abbrev pub put_at : CMemory → ℕ → ℕ → CCell → CMemory
put_at m serial place cell =
    let after = option_map (λ o. with_value o place cell) (object_at m serial) in
    record m { objects = slice_set m.objects serial after }

-- the objects with one more, under the next number
abbrev pub begun : CMemory → CObject → List (Option CObject)
begun m o = m.objects ++ Some o ∷ []

-- the memory after a store through a pointer
abbrev pub stored : CMemory → Pointer → CCell → CMemory
stored m p cell = put_at m (serial_of p) (offset_of p) cell

-- the pair after a store into one member: the other member stays, and is 0 where there was no value
abbrev pub with_member : Option CCell → Bool → ℕ → CCell
with_member (Some (Pair w)) true n = Pair (record w { aval = n })
with_member (Some (Pair w)) false n = Pair (record w { bval = n })
with_member other true n = Pair (record { aval = n; bval = 0 })
with_member other false n = Pair (record { aval = 0; bval = n })

-- the memory after a store into one member of a pair
abbrev pub member_stored : CMemory → Pointer → Bool → ℕ → CMemory
member_stored m p aval n = stored m p (with_member (value_at m p) aval n)

-- ---- what stops an access

-- the pointer's object isn't alive
abbrev pub is_dead : CMemory → Pointer → Bool
is_dead m p = is_none (object_at m (serial_of p))

-- the pointer is past the last cell
abbrev pub is_outside : CMemory → Pointer → Bool
is_outside m p = nat_le (length (cells_at m (serial_of p))) (offset_of p)

-- the type isn't that of the object's cells
abbrev pub is_mistyped : CMemory → Pointer → CellType → Bool
is_mistyped m p of = option_map_or (λ o. not (same_type of o.of)) (object_at m (serial_of p)) true

-- the object can't be written
abbrev pub is_read_only : CMemory → Pointer → Bool
is_read_only m p = option_map_or (λ o. not o.writable) (object_at m (serial_of p)) true

-- the cell has no value
abbrev pub is_empty : CMemory → Pointer → Bool
is_empty m p = is_none (value_at m p)

-- so many cells on, the pointer is before its object or more than one past its last cell
abbrev pub is_away : CMemory → Pointer → ℤ → Bool
is_away m p n =
    let place = pos (offset_of p) +ℤ n in
    int_lt place (pos 0) || int_lt (pos (length (cells_at m (serial_of p)))) place

-- the trap of the first condition that holds
abbrev pub first_trap : List (Bool × MemTrap) → Option MemTrap
first_trap [] = None
first_trap (c ∷ cs) = if c.0 then Some c.1 else first_trap cs

-- what is looked for before an object is
abbrev pub live_order : CMemory → Pointer → List (Bool × MemTrap)
live_order m p = (is_null p, Null) ∷ (is_dead m p, Dead) ∷ []

-- what is looked for before the cell of a pointer is, in this order
abbrev pub place_order : CMemory → Pointer → List (Bool × MemTrap)
place_order m p = (is_null p, Null) ∷ (is_dead m p, Dead) ∷ (is_outside m p, OutOfBounds) ∷ []

-- what is looked for at a load, in this order
abbrev pub load_order : CMemory → Pointer → CellType → List (Bool × MemTrap)
load_order m p of =
    (is_null p, Null) ∷ (is_dead m p, Dead) ∷ (is_outside m p, OutOfBounds)
    ∷ (is_mistyped m p of, TypeMismatch) ∷ (is_empty m p, Uninitialised) ∷ []

-- what is looked for at a store
abbrev pub store_order : CMemory → Pointer → CellType → List (Bool × MemTrap)
store_order m p of =
    (is_null p, Null) ∷ (is_dead m p, Dead) ∷ (is_outside m p, OutOfBounds)
    ∷ (is_mistyped m p of, TypeMismatch) ∷ (is_read_only m p, ReadOnly) ∷ []

-- what is looked for at a move
abbrev pub move_order : CMemory → Pointer → ℤ → List (Bool × MemTrap)
move_order m p n = (is_null p, Null) ∷ (is_dead m p, Dead) ∷ (is_away m p n, OutOfBounds) ∷ []

-- what is looked for where two pointers are ordered or subtracted
abbrev pub pair_order : CMemory → Pointer → Pointer → List (Bool × MemTrap)
pair_order m p q =
    (is_null p || is_null q, Null) ∷ (is_dead m p || is_dead m q, Dead)
    ∷ (not (serial_of p == serial_of q), DifferentObjects) ∷ []

-- ---- conditions

-- the pointer is the start of a live object
pub record IsStart (m : CMemory) (p : Pointer) : Type 0 where
  pub there : IsSome (object_at m (serial_of p))
  pub first : offset_of p ≡ 0

-- the pointer is inside a live object, and the value is of its type
pub record CanHold (m : CMemory) (p : Pointer) (cell : CCell) : Type 0 where
  pub inside : offset_of p < length (cells_at m (serial_of p))
  pub typed : IfSome (object_at m (serial_of p)) (λ o. IsTrue (fits o.of cell))

-- the pointer's object is accessed by the type
abbrev pub IsAccessed : CMemory → Pointer → CellType → Type 0
IsAccessed m p of = IfSome (object_at m (serial_of p)) (λ o. IsTrue (same_type of o.of))
