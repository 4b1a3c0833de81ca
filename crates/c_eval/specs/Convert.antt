-- Conversions.
use Rattle.std.specs.Prelude.{None, if◌then◌else◌}
use Rattle.c_base.specs.declared.base.CBase.{CBase}
use Rattle.c_base.specs.declared.base.CBase.TheVariants as Bases
use Rattle.c_base.specs.declared.ctype.CType.{CType}
use Rattle.c_base.specs.Types.{is_number, is_pointer}
use Rattle.c_memory.specs.declared.pointer.Pointer.TheVariants.{Null}
use Rattle.c_memory.specs.declared.ccell.CCell.{CCell}
use Rattle.c_memory.specs.declared.ccell.CCell.TheVariants.{Number, Pointer, Handle, Scope}
use Rattle.c_eval.specs.Values.{bits_in}
use Rattle.c_eval.specs.Numbers.{bits_at}

-- the cell as a pointer: itself, or null for 0
abbrev pub as_pointer : CCell → CCell
as_pointer (Pointer p) = Pointer p
as_pointer other = Pointer Null

-- the cell as a handle: itself, or null for 0 and the null pointer
abbrev pub as_handle : CCell → CCell
as_handle (Handle serial) = Handle serial
as_handle other = Handle 0

-- the cell as a scope: itself, or null for 0 and the null pointer
abbrev pub as_scope : CCell → CCell
as_scope (Scope scope) = Scope scope
as_scope other = Scope None

-- the cell at a base that is no whole type
abbrev pub as_base : CBase → CCell → CCell
as_base Bases.Handle cell = as_handle cell
as_base Bases.Scope cell = as_scope cell
as_base other cell = cell

-- the cell at a type that isn't a whole one
abbrev pub as_other : CType → CCell → CCell
as_other to cell = if is_pointer to then as_pointer cell else as_base to.base cell

-- the cell at another type: a number modulo 2 to the width
abbrev pub as_type : CType → CType → CCell → CCell
as_type from to cell =
    if is_number to then Number (bits_at from.base to.base (bits_in cell)) else as_other to cell
