-- The least of a list of violations.
use Rattle.std.specs.Prelude.{◌≡◌, Bool, true, false, Option, Some, None, List, [], ◌∷◌, ◌++◌, All, Contains}
use Rattle.dpi_rules.specs.declared.violation.Violation.{Violation}
use Rattle.dpi_rules.specs.Order.{before, lesser, joined}

-- one of the list, and none of the list stands before it
pub record IsLeast (vs : List Violation) (v : Violation) : Type 0 where
  pub among : Contains vs v
  pub first : All (λ w. before w v ≡ false) vs

-- nothing of an empty list, else its least
abbrev pub IsLeastOf : List Violation → Option Violation → Type 0
IsLeastOf vs None = vs ≡ []
IsLeastOf vs (Some v) = IsLeast vs v

-- what is kept when the list is noted, one violation after another, behind what was found so far
abbrev pub noted : Option Violation → List Violation → Option Violation
noted found [] = found
noted found (v ∷ vs) = noted (lesser found v) vs

-- what is kept of the list alone
abbrev pub least : List Violation → Option Violation
least vs = noted None vs

-- whether nothing was found
abbrev pub is_clean : List Violation → Bool
is_clean [] = true
is_clean (v ∷ vs) = false

-- what is kept of a list is its least, and a list has no other
pub record LeastIsLeast : Type 0 where
  pub least_is : (vs : List Violation) → IsLeastOf vs (least vs)
  pub only : (vs : List Violation) (found : Option Violation) → IsLeastOf vs found → found ≡ least vs

-- what is kept of two lists, one behind the other, is what is kept of both joined
abbrev pub JoinedIsLeast : Type 0
JoinedIsLeast = (vs ws : List Violation) → least (vs ++ ws) ≡ joined (least vs) (least ws)
