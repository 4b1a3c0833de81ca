-- Lemmas for checkers: lists noted in parts and in loops.
use Rattle.std.proofs.Common.{◌≡◌, ℕ, suc, ◌+◌, ◌<◌, ◌≤◌, List, [], ◌∷◌, ◌++◌, length, drop, get_or, refl, sym, ap, ◌∙◌, add-one, Option}
use Rattle.std.specs.Prelude.{flat_map, ◌&&◌}
use Rattle.std.proofs.Math.Seq.{drop-cons}
use Rattle.std.proofs.lemmas.List.{drop_all}
use Rattle.dpi_rules.specs.declared.violation.Violation.{Violation}
use Rattle.dpi_rules.specs.Least.{noted, is_clean}
use Rattle.dpi_rules.proofs.Firsts.{noted-append}

pub is_clean-append : (vs ws : List Violation) → is_clean (vs ++ ws) ≡ (is_clean vs && is_clean ws)
is_clean-append [] ws = refl
is_clean-append (v ∷ vs) ws = refl

-- one list noted, and then another
pub noted_both : (start : Option Violation) {middle end : Option Violation} (vs ws : List Violation) → middle ≡ noted start vs → end ≡ noted middle ws → end ≡ noted start (vs ++ ws)
noted_both start {middle} {end} vs ws h k = k ∙ ap (λ o. noted o ws) h ∙ sym (noted-append start vs ws)

-- The invariant of a loop over the list `xs`, each of which holds the violations `of x`: what is left comes to the same as all.
pub record IsNoted {X : Type 0} (of : X → List Violation) (start : Option Violation) (xs left : List X) (found : Option Violation) : Type 0 where
  pub same : noted start (flat_map of xs) ≡ noted found (flat_map of left)

pub noted_first : {X : Type 0} (of : X → List Violation) (start : Option Violation) (xs : List X) → IsNoted of start xs (drop 0 xs) start
noted_first of start xs = record { same = refl }

rest_of : {X : Type 0} (xs : List X) (i : ℕ) (x : X) → i < length xs → x ≡ get_or xs i x → drop i xs ≡ x ∷ drop (i + 1) xs
rest_of xs i x h e = rw add-one (drop-cons xs i x h ∙ ap (λ y. y ∷ drop (suc i) xs) (sym e))

-- one more
pub noted_next : {X : Type 0} {of : X → List Violation} {start found : Option Violation} (xs : List X) (i : ℕ) (x : X) → i < length xs → x ≡ get_or xs i x → {next : Option Violation} → next ≡ noted found (of x) → IsNoted of start xs (drop i xs) found → IsNoted of start xs (drop (i + 1) xs) next
noted_next {X} {of} {start} {found} xs i x h e {next} n loop = record {
  same = loop.same ∙ ap (λ ys. noted found (flat_map of ys)) (rest_of xs i x h e) ∙ noted-append found (of x) (flat_map of (drop (i + 1) xs)) ∙ ap (λ o. noted o (flat_map of (drop (i + 1) xs))) (sym n);
}

-- nothing is left
pub noted_last : {X : Type 0} {of : X → List Violation} {start found : Option Violation} (xs : List X) (i : ℕ) → length xs ≤ i → IsNoted of start xs (drop i xs) found → found ≡ noted start (flat_map of xs)
noted_last {X} {of} {start} {found} xs i h loop = sym (loop.same ∙ ap (λ ys. noted found (flat_map of ys)) (drop_all i xs h))
