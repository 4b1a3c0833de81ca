-- What is broken beside the first of a name, by the values that are seen.
use Rattle.std.proofs.Common.{◌≡◌, ℕ, List, [], ◌∷◌, ◌++◌, map, refl, ap, ◌∙◌, true, false, cond, Option, Some}
use Rattle.std.specs.Prelude.{option_map}
use Rattle.std.specs.Str.{bytes_eq}
use Rattle.std.proofs.lemmas.List.{map-append}
use Rattle.dpi_rules.specs.declared.violation.Violation.{Violation}
use Rattle.dpi_agree.specs.Firsts.{first_named, broken_behind, each_broken}

named_map : {X Y : Type 0} (f : X → Y) (name_of : Y → List ℕ) (xs : List X) (q : List ℕ) → option_map f (first_named (λ x. name_of (f x)) xs q) ≡ first_named name_of (map f xs) q
named_map f name_of [] q = refl
named_map f name_of (x ∷ xs) q =
    elim (bytes_eq (name_of (f x)) q) as (λ b. option_map f (cond b (Some x) (first_named (λ x. name_of (f x)) xs q)) ≡ cond b (Some (f x)) (first_named name_of (map f xs) q)) [
      | true ↦ refl
      | false ↦ named_map f name_of xs q
    ]

module _ {X Y : Type 0} (f : X → Y) (name_of : Y → List ℕ) (of : Option X → X → List Violation) (seen : Option Y → Y → List Violation) (same : (o : Option X) (x : X) → of o x ≡ seen (option_map f o) (f x)) where
  behind_map : (before xs : List X) → broken_behind (λ x. name_of (f x)) of before xs ≡ broken_behind name_of seen (map f before) (map f xs)
  behind_map before [] = refl
  behind_map before (x ∷ xs) =
      let q = name_of (f x) in
      let first = first_named (λ x. name_of (f x)) before q in
      let rest = broken_behind (λ x. name_of (f x)) of (before ++ x ∷ []) xs in
      ap (λ vs. vs ++ rest) (same first x ∙ ap (λ o. seen o (f x)) (named_map f name_of before q))
      ∙ ap (λ vs. seen (first_named name_of (map f before) q) (f x) ++ vs) (behind_map (before ++ x ∷ []) xs ∙ ap (λ ys. broken_behind name_of seen ys (map f xs)) (map-append f before (x ∷ [])))

  pub each_map : (xs : List X) → each_broken (λ x. name_of (f x)) of xs ≡ each_broken name_of seen (map f xs)
  each_map xs = behind_map [] xs
