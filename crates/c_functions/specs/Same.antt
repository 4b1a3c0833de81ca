-- When two declarations give a function the same type (ISO C 6.7.6.3, paragraph 15).
use Rattle.std.specs.Prelude.{Bool, true, false, not, ◌==◌, ◌&&◌, is_some, Option, Some, None, List, [], ◌∷◌}
use Rattle.std.specs.List.{list_all}
use Rattle.c_base.specs.declared.ctype.CType.{CType}
use Rattle.c_typing.specs.Pointers.{same_base, agree}
use Rattle.c_functions.specs.declared.types.FunctionType.{FunctionType}

abbrev pub same_type : CType → CType → Bool
same_type s t = same_base s.base t.base && (agree s.base_const t.base_const && (s.stars == t.stars && agree s.inner_const t.inner_const))

-- both are there and the same
abbrev pub same_part : Option CType → Option CType → Bool
same_part None t = false
same_part (Some s) None = false
same_part (Some s) (Some t) = same_type s t

-- as many parameters, one by one the same
abbrev pub same_parts : List (Option CType) → List (Option CType) → Bool
same_parts [] [] = true
same_parts [] (t ∷ ts) = false
same_parts (s ∷ ss) [] = false
same_parts (s ∷ ss) (t ∷ ts) = same_part s t && same_parts ss ts

abbrev pub same_types : FunctionType → FunctionType → Bool
same_types s t = same_part s.result t.result && same_parts s.params t.params

-- no part is refused
abbrev pub is_known : FunctionType → Bool
is_known t = is_some t.result && list_all is_some t.params

-- the types are known, and others
abbrev pub differ : Option FunctionType → Option FunctionType → Bool
differ None t = false
differ (Some s) None = false
differ (Some s) (Some t) = not (same_types s t)
