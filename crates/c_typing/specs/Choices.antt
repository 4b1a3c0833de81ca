-- Conditionals (ISO C 6.5.15).
use Rattle.std.specs.Prelude.{ℕ, Bool, ◌&&◌, ◌||◌, if◌then◌else◌, Option, Some, None, [], ◌++◌}
use Rattle.c_base.specs.declared.base.CBase.TheVariants.{Void}
use Rattle.c_base.specs.declared.ctype.CType.{CType}
use Rattle.c_base.specs.Base.{common}
use Rattle.c_base.specs.Types.{plain, is_pointer}
use Rattle.c_typing.specs.declared.place.Place.{Place}
use Rattle.c_typing.specs.declared.operand.Operand.{Operand}
use Rattle.c_typing.specs.Judged.{Judged, rule_at, passed_over}
use Rattle.c_typing.specs.Operands.{value, is_null}
use Rattle.c_typing.specs.Pointers.{is_base, pointed, points_to_const, pointer_to, points_alike}
use Rattle.c_typing.specs.Conversions.{condition, condition_rule, same_opaque, both_pairs}
use Rattle.c_typing.specs.Binary.{both_numbers, pointers_alike, meets_void}

-- both are void
abbrev pub both_void : CType → CType → Bool
both_void s t = is_base Void s && is_base Void t

-- a pair, an opaque type or void, beside itself
abbrev pub both_whole : CType → CType → Bool
both_whole s t = both_pairs s t || (same_opaque s t || both_void s t)

-- what is pointed to is const where it is for either of two pointers
abbrev pub either_const : CType → CType → Bool
either_const s t = points_to_const s || points_to_const t

-- the type of two pointers that point to one type, or of which one is a `void *`
abbrev pub merged : CType → CType → CType
merged s t = if points_alike s t then pointer_to (pointed s) (either_const s t) else pointer_to (plain Void) (either_const s t)

-- the pointer beside 0 or NULL; the last line is two pointers
abbrev pub pointer_type : Operand → Operand → Option CType
pointer_type a b =
    if is_null a && is_pointer b.of then Some b.of
    else (if is_null b && is_pointer a.of then Some a.of
    else (if pointers_alike a.of b.of || meets_void a.of b.of then Some (merged a.of b.of) else None))

-- the type of two branches, where they go together
abbrev pub branch_type : Operand → Operand → Option CType
branch_type a b =
    if both_numbers a.of b.of then Some (plain (common a.of.base b.of.base))
    else (if both_whole a.of b.of then Some (plain a.of.base) else pointer_type a b)

-- a value of the type, or rule 10 at the `?` where there is none
abbrev pub branches : Place → Option CType → Judged
branches p None = record { found = rule_at p (Some 10); value = None }
branches p (Some of) = record { found = []; value = Some (value of) }

-- two branches, if both have types
abbrev pub both_branches : Place → Option Operand → Option Operand → Judged
both_branches p None b = passed_over
both_branches p (Some a) None = passed_over
both_branches p (Some a) (Some b) = branches p (branch_type a b)

-- a conditional is what its branches are where its condition is a number or a pointer
abbrev pub chosen_by : Option ℕ → Judged → Judged
chosen_by None j = j
chosen_by (Some rule) j = record { found = j.found; value = None }

-- the branches are looked at where the condition has a type
abbrev pub chosen : Place → Option Operand → Option Operand → Option Operand → Judged
chosen p None a b = passed_over
chosen p (Some c) a b = chosen_by (condition_rule c) (both_branches p a b)

-- a conditional, by the places of its condition's first token and of its `?`
abbrev pub choice : Place → Place → Option Operand → Option Operand → Option Operand → Judged
choice at p c a b =
    let j = chosen p c a b in
    record { found = condition at c ++ j.found; value = j.value }
