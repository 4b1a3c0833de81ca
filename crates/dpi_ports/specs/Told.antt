-- What a source of files and a sink tell of themselves, and how their counts of faults move.
use Rattle.std.specs.Prelude.{◌≡◌, ◌<◌, ◌⊎◌, ℕ, List, ◌++◌, length, take, Option, Some, IfSome, IsSomeAnd}

-- contents by name: None for a name that isn't there
abbrev pub Contents : Type 0
Contents = List ℕ → Option (List ℕ)

-- a count rose, or stands at the last value that it has
abbrev pub HasRisen : ℕ → ℕ → Type 0
HasRisen old new = (old < new) ⊎ (new ≡ 0xffff_ffff_ffff_ffff)

-- where the contents are told, the name has these bytes
abbrev pub Holds : Option Contents → List ℕ → List ℕ → Type 0
Holds told name bytes = IfSome told (λ contents. contents name ≡ Some bytes)

-- where the contents are told, the name has a file of more bytes than the limit
abbrev pub HoldsMore : Option Contents → List ℕ → ℕ → Type 0
HoldsMore told name limit = IfSome told (λ contents. IsSomeAnd (contents name) (λ bytes. limit < length bytes))

-- where a sink tells what it took, it took these bytes more
pub record Takes (old new : Option (List ℕ)) (bytes : List ℕ) : Type 0 where
  pub after : (before : List ℕ) → old ≡ Some before → new ≡ Some (before ++ bytes)

-- the same of some first bytes of these
pub record TakesFront (old new : Option (List ℕ)) (bytes : List ℕ) : Type 0 where
  pub count : ℕ
  pub takes : Takes old new (take count bytes)
