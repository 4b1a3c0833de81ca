-- Things with names, and the first of each name.
use Rattle.std.specs.Prelude.{ℕ, Option, Some, None, List, [], ◌∷◌, ◌++◌, find, if◌then◌else◌}
use Rattle.std.specs.BTreeMap.{BTreeMap, get_by}
use Rattle.std.specs.Cmp.Lexicographic.{slice_cmp}
use Rattle.std.specs.Ordering.{nat_cmp}
use Rattle.std.specs.Str.{bytes_eq}
use denote.Ref.{Bor}
use Rattle.dpi_rules.specs.declared.violation.Violation.{Violation}

-- the first of these that has the name
abbrev pub first_named : {X : Type 0} → (X → List ℕ) → List X → List ℕ → Option X
first_named name_of xs name = find (λ x. bytes_eq (name_of x) name) xs

-- what each breaks beside the first of its name, where these stand before
abbrev pub broken_behind : {X : Type 0} → (X → List ℕ) → (Option X → X → List Violation) → List X → List X → List Violation
broken_behind name_of breaks before [] = []
broken_behind name_of breaks before (x ∷ xs) =
    breaks (first_named name_of before (name_of x)) x ++ broken_behind name_of breaks (before ++ x ∷ []) xs

-- the same of a whole list
abbrev pub each_broken : {X : Type 0} → (X → List ℕ) → (Option X → X → List Violation) → List X → List Violation
each_broken name_of breaks xs = broken_behind name_of breaks [] xs

-- the first of both that is there
abbrev pub or_else : {A : Type 0} → Option A → Option A → Option A
or_else None b = b
or_else (Some a) b = Some a

-- one more name, which counts unless it is there
abbrev pub added : {X : Type 0} → (List ℕ → Option X) → List ℕ → X → List ℕ → Option X
added firsts name x other = or_else (firsts other) (if bytes_eq name other then Some x else None)

-- what a map from names tells
abbrev pub told : {X : Type 0} → BTreeMap (Bor (List ℕ)) X → List ℕ → Option X
told m name = get_by (λ k. slice_cmp nat_cmp name k.now) m
