-- Typed values: numbers, truth and equality.
use Rattle.std.specs.Prelude.{ℕ, Bool, true, false, not, ◌&&◌, ◌==◌, if◌then◌else◌}
use Rattle.std.specs.Prelude.{Option, Some, None, is_some, Result, Ok, Err}
use Rattle.c_base.specs.declared.base.CBase.{CBase}
use Rattle.c_base.specs.declared.base.CBase.TheVariants.{Int}
use Rattle.c_base.specs.Types.{plain}
use Rattle.c_memory.specs.declared.pointer.Pointer.TheVariants.{Null, At}
use Rattle.c_memory.specs.declared.pointer.Pointer as Pointers
use Rattle.c_memory.specs.declared.ccell.CCell.{CCell}
use Rattle.c_memory.specs.declared.ccell.CCell.TheVariants.{Number, Pointer, Handle, Scope, Pair}
use Rattle.c_memory.specs.Pointer.{is_null}
use Rattle.c_eval.specs.declared.trap.OpTrap.{OpTrap}
use Rattle.c_eval.specs.declared.value.CValue.{CValue}

-- the number of a whole type by its bits
abbrev pub number : CBase → ℕ → CValue
number of bits = record { of = plain of; cell = Number bits }

-- what a comparison or a logical operator gives: an `int` of 1 or 0
abbrev pub truth : Bool → CValue
truth holds = number Int (if holds then 1 else 0)

-- the number of a whole type by its bits, or the trap in their place
abbrev pub typed : CBase → Result ℕ OpTrap → Result CValue OpTrap
typed of (Ok bits) = Ok (number of bits)
typed of (Err trap) = Err trap

-- the bits of a number; 0 for another cell
abbrev pub bits_in : CCell → ℕ
bits_in (Number bits) = bits
bits_in other = 0

-- the cell is true as a condition: neither 0 nor null
abbrev pub is_set : CCell → Bool
is_set (Number bits) = not (bits == 0)
is_set (Pointer p) = not (is_null p)
is_set (Handle serial) = not (serial == 0)
is_set (Scope scope) = is_some scope
is_set (Pair w) = true

-- both pointers are null, or to one place of one object
abbrev pub same_pointer : Pointers.Pointer → Pointers.Pointer → Bool
same_pointer Null Null = true
same_pointer (At serial offset) (At other place) = serial == other && offset == place
same_pointer p q = false

-- both are null, or one scope
abbrev pub same_scope : Option ℕ → Option ℕ → Bool
same_scope None None = true
same_scope (Some a) (Some b) = a == b
same_scope a b = false

-- two cells that aren't both numbers are equal; of two kinds, both are null or 0
abbrev pub same : CCell → CCell → Bool
same (Pointer p) (Pointer q) = same_pointer p q
same (Handle m) (Handle n) = m == n
same (Scope s) (Scope t) = same_scope s t
same a b = not (is_set a) && not (is_set b)
