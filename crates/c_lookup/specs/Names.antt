-- Numbers by name.
use Rattle.std.specs.Prelude.{ℕ, Option, None, List, [], ◌∷◌, if◌then◌else◌}
use Rattle.std.specs.Option.{option_or}
use Rattle.std.specs.BTreeMap.{get_by}
use Rattle.std.specs.Cmp.Lexicographic.{slice_cmp}
use Rattle.std.specs.Ordering.{nat_cmp}
use Rattle.std.specs.Str.{bytes_eq}
use Rattle.c_lookup.specs.declared.names.Named.{Named}

-- each name with its number, if it has one
abbrev pub Names : Type 0
Names = List ℕ → Option ℕ

abbrev pub no_names : Names
no_names name = None

-- this number, if there is one, under this name, and no other
abbrev pub only_named : List ℕ → Option ℕ → Names
only_named name number other = if bytes_eq name other then number else None

-- numbers, and those that count where there are none
abbrev pub or_names : Names → Names → Names
or_names names more name = option_or (names name) (more name)

-- what the first item of a list says of a name that says anything of it
abbrev pub first_named : {X : Type 0} → (X → Names) → List X → Names
first_named says [] = no_names
first_named says (x ∷ xs) = or_names (says x) (first_named says xs)

-- what the code's names mean
abbrev pub named : Named → Names
named names name = get_by (λ k. slice_cmp nat_cmp name k.now) names.names
