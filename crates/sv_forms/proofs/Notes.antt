-- Lemmas for walks that note what each part breaks.
use Rattle.std.proofs.Common.{◌≡◌, ℕ, ◌≤◌, List, [], ◌∷◌, ◌++◌, length, drop, refl, sym, ap, ◌∙◌, Option}
use Rattle.std.specs.Prelude.{flat_map, map}
use Rattle.dpi_rules.specs.declared.violation.Violation.{Violation}
use Rattle.dpi_rules.specs.Least.{noted}
use Rattle.dpi_rules.proofs.Firsts.{noted-append}
use Rattle.dpi_rules.proofs.Noting.{IsNoted, noted_last}
use Rattle.sv_forms.specs.Calls.{all_of}
use Rattle.sv_forms.specs.Statements.{Breaks, each_at}
use Rattle.sv_forms.specs.declared.around.Around.{Around}

-- one list noted, and then another
pub appended : (start : Option Violation) (vs ws : List Violation) → noted (noted start vs) ws ≡ noted start (vs ++ ws)
appended start vs ws = sym (noted-append start vs ws)

pub flat : {X : Type 0} (of : X → List Violation) (xs : List X) → flat_map of xs ≡ all_of (map of xs)
flat of [] = refl
flat of (x ∷ xs) = ap (λ vs. of x ++ vs) (flat of xs)

-- what each breaks at one place
pub flat_at : {X : Type 0} (of : X → Breaks) (around : Around) (xs : List X) → flat_map (λ x. of x around) xs ≡ each_at around (map of xs)
flat_at of around [] = refl
flat_at of around (x ∷ xs) = ap (λ vs. of x around ++ vs) (flat_at of around xs)

-- the loop is over
pub all_noted : {X : Type 0} {of : X → List Violation} {start found : Option Violation} (xs : List X) (i : ℕ) → length xs ≤ i → IsNoted of start xs (drop i xs) found → found ≡ noted start (all_of (map of xs))
all_noted {X} {of} {start} xs i h loop = noted_last xs i h loop ∙ ap (noted start) (flat of xs)

pub all_noted_at : {X : Type 0} (of : X → Breaks) (around : Around) {start found : Option Violation} (xs : List X) (i : ℕ) → length xs ≤ i → IsNoted (λ x. of x around) start xs (drop i xs) found → found ≡ noted start (each_at around (map of xs))
all_noted_at {X} of around {start} xs i h loop = noted_last xs i h loop ∙ ap (noted start) (flat_at of around xs)
