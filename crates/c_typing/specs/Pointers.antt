-- What a type points to, and which kinds of types there are (ISO C 6.2.5, 6.7.6.1).
use Rattle.std.specs.Prelude.{◌-◌, Bool, true, false, not, ◌==◌, ◌&&◌, ◌||◌, if◌then◌else◌}
use denote.Enum.Bare.{sameb}
use Rattle.c_base.specs.contracts.base.CBase.{the_type}
use Rattle.c_base.specs.declared.base.CBase.{CBase}
use Rattle.c_base.specs.declared.base.CBase.TheVariants.{Void, Handle, Scope}
use Rattle.c_base.specs.declared.ctype.CType.{CType}
use Rattle.c_base.specs.Types.{plain, is_number, is_pointer}

abbrev pub same_base : CBase → CBase → Bool
same_base a b = sameb the_type a b

-- the type is this base, const or not
abbrev pub is_base : CBase → CType → Bool
is_base base of = of.stars == 0 && same_base of.base base

-- `svScope` or `svOpenArrayHandle`
abbrev pub is_opaque : CType → Bool
is_opaque of = is_base Handle of || is_base Scope of

-- a number or a pointer
abbrev pub is_scalar : CType → Bool
is_scalar of = is_number of || is_pointer of

-- the type without the const of its own: a value has none
abbrev pub bare : CType → CType
bare of = if of.stars == 0 then plain of.base else of

-- the type of the object that a pointer points to, const where the object is a const base
abbrev pub pointed : CType → CType
pointed of = record { base = of.base; base_const = of.base_const; stars = of.stars - 1; inner_const = false }

-- a pointer points to const objects
abbrev pub points_to_const : CType → Bool
points_to_const of = if of.stars == 2 then of.inner_const else of.base_const

-- the pointer to an object of the type that is const or isn't. There is no third star
abbrev pub pointer_to : CType → Bool → CType
pointer_to of constant =
    if of.stars == 0
    then record { base = of.base; base_const = constant; stars = 1; inner_const = false }
    else record { base = of.base; base_const = of.base_const; stars = 2; inner_const = constant }

-- `void *`, to const or not
abbrev pub is_void_pointer : CType → Bool
is_void_pointer of = of.stars == 1 && same_base of.base Void

-- a pointer to objects that have cells: to anything but void
abbrev pub is_cell_pointer : CType → Bool
is_cell_pointer of = is_pointer of && not (is_void_pointer of)

-- both or neither
abbrev pub agree : Bool → Bool → Bool
agree true b = b
agree false b = not b

-- two pointers point to one type, the const of the objects aside
abbrev pub points_alike : CType → CType → Bool
points_alike s t = s.stars == t.stars && (same_base s.base t.base && (not (s.stars == 2) || agree s.base_const t.base_const))
