-- Casts (ISO C 6.5.4).
use Rattle.std.specs.Prelude.{ℕ, Bool, not, ◌&&◌, ◌||◌, ◌==◌, if◌then◌else◌, Option, Some, None}
use Rattle.c_base.specs.declared.base.CBase.TheVariants.{Void, LogicVec}
use Rattle.c_base.specs.declared.ctype.CType.{CType}
use Rattle.c_base.specs.Types.{is_number, is_pointer}
use Rattle.c_typing.specs.declared.place.Place.{Place}
use Rattle.c_typing.specs.declared.operand.Operand.{Operand}
use Rattle.c_typing.specs.Judged.{Judged, unless, judged, passed_over}
use Rattle.c_typing.specs.Operands.{value}
use Rattle.c_typing.specs.Pointers.{is_base, bare}
use Rattle.c_typing.specs.Conversions.{keeps_const}

-- the base below two stars on both sides is const where it was
abbrev pub keeps_base_const : CType → CType → Bool
keeps_base_const s t = not (s.stars == 2 && t.stars == 2) || (not s.base_const || t.base_const)

-- numbers among each other, and pointers among each other where no const is dropped
abbrev pub scalar_casts : CType → CType → Bool
scalar_casts s t =
    (is_number s && is_number t) || ((is_pointer s && is_pointer t) && (keeps_const s t && keeps_base_const s t))

-- a pair, or a void value
abbrev pub is_uncastable : CType → Bool
is_uncastable of = is_base LogicVec of || is_base Void of

-- Everything may be cast to void. Rule 10: a pair or a void value otherwise, and a cast to a pair. Rule 18: between pointer and number, to
-- or from an opaque type, or a const that is dropped
abbrev pub cast_rule : CType → CType → Option ℕ
cast_rule s t =
    if is_base Void t then None
    else (if is_uncastable s || is_base LogicVec t then Some 10 else unless (scalar_casts s t) 18)

-- a cast of an operand to a type, if both have one
abbrev pub cast : Place → Option CType → Option Operand → Judged
cast p None a = passed_over
cast p (Some t) None = passed_over
cast p (Some t) (Some a) = judged p (cast_rule a.of t) (value (bare t))
