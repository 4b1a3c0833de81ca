-- The first of a list that gives something for a name.
use Rattle.std.specs.Prelude.{ℕ, Option, None, List, [], ◌∷◌, if◌then◌else◌}
use Rattle.std.specs.Option.{option_or}
use Rattle.std.specs.Str.{bytes_eq}

-- what the first of these gives for a name, of those that give something
abbrev pub first_given : {X A : Type 0} → (X → List ℕ → Option A) → List X → List ℕ → Option A
first_given give [] name = None
first_given give (x ∷ xs) name = option_or (give x name) (first_given give xs name)

-- a thing, for its own name
abbrev pub by_name : {X A : Type 0} → (X → List ℕ) → (X → Option A) → X → List ℕ → Option A
by_name name_of given x name = if bytes_eq (name_of x) name then given x else None
