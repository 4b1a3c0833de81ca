-- Lists noted one after another.
use Rattle.std.proofs.Common.{◌≡◌, ℕ, ◌≤◌, List, [], ◌∷◌, ◌++◌, length, drop, refl, ap, ◌∙◌, Option}
use Rattle.std.specs.Prelude.{flat_map, map}
use Rattle.dpi_rules.specs.declared.violation.Violation.{Violation}
use Rattle.dpi_rules.specs.Least.{noted}
use Rattle.dpi_rules.proofs.Noting.{IsNoted, noted_last}
use Rattle.c_calls.specs.Expressions.{all_of}

pub flat : {X : Type 0} (of : X → List Violation) (xs : List X) → flat_map of xs ≡ all_of (map of xs)
flat of [] = refl
flat of (x ∷ xs) = ap (λ vs. of x ++ vs) (flat of xs)

-- the loop is over
pub all_noted : {X : Type 0} {of : X → List Violation} {start found : Option Violation} (xs : List X) (i : ℕ) → length xs ≤ i → IsNoted of start xs (drop i xs) found → found ≡ noted start (all_of (map of xs))
all_noted {X} {of} {start} xs i h loop = noted_last xs i h loop ∙ ap (noted start) (flat of xs)
