-- Pointers.
use Rattle.std.specs.Prelude.{ℕ, Bool, true, false}
use Rattle.c_memory.specs.declared.pointer.Pointer.{Pointer}
use Rattle.c_memory.specs.declared.pointer.Pointer.TheVariants.{Null, At}

-- the pointer is null
abbrev pub is_null : Pointer → Bool
is_null Null = true
is_null (At serial offset) = false

-- the number of the object; 0, which is no object's, for null
abbrev pub serial_of : Pointer → ℕ
serial_of Null = 0
serial_of (At serial offset) = serial

-- the offset in cells
abbrev pub offset_of : Pointer → ℕ
offset_of Null = 0
offset_of (At serial offset) = offset
