-- Conversions of a value without a cast (ISO C 6.3, 6.5.16.1).
use Rattle.std.specs.Prelude.{ℕ, Bool, not, ◌&&◌, ◌||◌, if◌then◌else◌, Option, Some, None, List, []}
use Rattle.dpi_rules.specs.declared.violation.Violation.{Violation}
use Rattle.c_base.specs.declared.base.CBase.TheVariants.{LogicVec, Handle, Scope}
use Rattle.c_base.specs.declared.ctype.CType.{CType}
use Rattle.c_base.specs.Types.{is_number, is_pointer}
use Rattle.c_typing.specs.declared.place.Place.{Place}
use Rattle.c_typing.specs.declared.operand.Operand.{Operand}
use Rattle.c_typing.specs.Judged.{unless, rule_at}
use Rattle.c_typing.specs.Operands.{is_null}
use Rattle.c_typing.specs.Pointers.{is_base, is_opaque, is_scalar, points_to_const, is_void_pointer, points_alike}

-- the objects are const where they were
abbrev pub keeps_const : CType → CType → Bool
keeps_const s t = not (points_to_const s) || points_to_const t

-- of two pointers, to one type or with a `void *` among them, the first converts to the second where that keeps the const
abbrev pub pointer_converts : CType → CType → Bool
pointer_converts s t = keeps_const s t && (points_alike s t || (is_void_pointer s || is_void_pointer t))

-- `svScope` to itself, and `svOpenArrayHandle` to itself
abbrev pub same_opaque : CType → CType → Bool
same_opaque s t = (is_base Handle s && is_base Handle t) || (is_base Scope s && is_base Scope t)

-- both are pairs
abbrev pub both_pairs : CType → CType → Bool
both_pairs s t = is_base LogicVec s && is_base LogicVec t

-- a number to a number, a pointer to a pointer, an opaque type to itself, a pair to a pair
abbrev pub type_converts : CType → CType → Bool
type_converts s t =
    if is_number s then is_number t
    else (if is_pointer s then is_pointer t && pointer_converts s t else same_opaque s t || both_pairs s t)

-- a pointer or an opaque type, to which 0 and NULL convert
abbrev pub takes_null : CType → Bool
takes_null t = is_pointer t || is_opaque t

-- the value converts to the type without a cast
abbrev pub converts : Operand → CType → Bool
converts a t = (is_null a && takes_null t) || type_converts a.of t

-- rule 9: a conversion that isn't allowed
abbrev pub conversion_rule : Operand → CType → Option ℕ
conversion_rule a t = unless (converts a t) 9

-- a value is converted to a type, if both have one
abbrev pub conversion : Place → Option Operand → Option CType → List Violation
conversion p (Some a) (Some t) = rule_at p (conversion_rule a t)
conversion p (Some a) None = []
conversion p None t = []

-- rule 25: a condition is a number or a pointer
abbrev pub condition_rule : Operand → Option ℕ
condition_rule a = unless (is_scalar a.of) 25

-- a condition, if it has a type
abbrev pub condition : Place → Option Operand → List Violation
condition p None = []
condition p (Some a) = rule_at p (condition_rule a)
