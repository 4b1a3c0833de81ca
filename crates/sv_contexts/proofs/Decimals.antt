-- Loops over the arguments of a format.
use Rattle.std.proofs.Common.{◌≡◌, ℕ, suc, ◌+◌, ◌<◌, ◌≤◌, List, [], ◌∷◌, ◌++◌, length, drop, get_or, refl, sym, ap, ◌∙◌, add-one, arith, Option, Some, None, ◌⊎◌, inl, inr}
use Rattle.std.specs.Prelude.{slice_get, Bool, true, false, ◌&&◌}
use Rattle.std.proofs.Math.Seq.{drop-cons}
use Rattle.std.proofs.lemmas.List.{drop_all}
use Rattle.std.proofs.lemmas.Option.{slice_get_cases}
use Rattle.dpi_rules.specs.declared.violation.Violation.{Violation}
use Rattle.dpi_rules.specs.Least.{noted}
use Rattle.dpi_rules.proofs.Firsts.{noted-append}
use Rattle.sv_contexts.specs.declared.formats.Shown.{Shown}
use Rattle.sv_contexts.specs.declared.formats.Conversion.{Conversion}
use Rattle.sv_contexts.specs.Formats.{decimal_violations, decimals_violations, fits_at, are_shown}

rest_of : {X : Type 0} (xs : List X) (i : ℕ) (x : X) → i < length xs → x ≡ get_or xs i x → drop i xs ≡ x ∷ drop (i + 1) xs
rest_of xs i x h e = rw add-one (drop-cons xs i x h ∙ ap (λ y. y ∷ drop (suc i) xs) (sym e))

none_shown : (file : ℕ) (args : List Shown) → decimals_violations file args [] ≡ []
none_shown file [] = refl
none_shown file (a ∷ args) = refl

past : (file : ℕ) (a : Shown) (args : List Shown) (cs : List Conversion) (i : ℕ) → length cs ≤ i → slice_get cs i ≡ None
    → decimals_violations file (a ∷ args) (drop i cs) ≡ decimal_violations file a (slice_get cs i) ++ decimals_violations file args (drop (i + 1) cs)
past file a args cs i h e =
    let later : length cs ≤ i + 1 = omega arith in
    ap (λ ds. decimals_violations file (a ∷ args) ds) (drop_all i cs h)
    ∙ sym (none_shown file args)
    ∙ ap (λ ds. decimals_violations file args ds) (sym (drop_all (i + 1) cs later))
    ∙ ap (λ o. decimal_violations file a o ++ decimals_violations file args (drop (i + 1) cs)) (sym e)

-- what is left, at an argument and the conversion of its place
at_place : (file : ℕ) (a : Shown) (args : List Shown) (cs : List Conversion) (i : ℕ)
    → decimals_violations file (a ∷ args) (drop i cs) ≡ decimal_violations file a (slice_get cs i) ++ decimals_violations file args (drop (i + 1) cs)
at_place file a args cs i =
    elim (slice_get_cases cs i).1 [
      | inl w ↦ ap (λ ds. decimals_violations file (a ∷ args) ds) (rest_of cs i w.0 w.1 (sym w.3)) ∙ ap (λ o. decimal_violations file a o ++ decimals_violations file args (drop (i + 1) cs)) (sym w.2)
      | inr w ↦ past file a args cs i w.0 w.1
    ]

-- one argument more
pub decimals_next : (file : ℕ) (args : List Shown) (cs : List Conversion) (i : ℕ) (a : Shown) (found next : Option Violation) → i < length args → a ≡ get_or args i a
    → next ≡ noted found (decimal_violations file a (slice_get cs i))
    → noted found (decimals_violations file (drop i args) (drop i cs)) ≡ noted next (decimals_violations file (drop (i + 1) args) (drop (i + 1) cs))
decimals_next file args cs i a found next h e n =
    ap (λ xs. noted found (decimals_violations file xs (drop i cs))) (rest_of args i a h e)
    ∙ ap (λ vs. noted found vs) (at_place file a (drop (i + 1) args) cs i)
    ∙ noted-append found (decimal_violations file a (slice_get cs i)) (decimals_violations file (drop (i + 1) args) (drop (i + 1) cs))
    ∙ ap (λ o. noted o (decimals_violations file (drop (i + 1) args) (drop (i + 1) cs))) (sym n)

shown_past : (a : Shown) (args : List Shown) (cs : List Conversion) (i : ℕ) → length cs ≤ i → slice_get cs i ≡ None
    → are_shown (a ∷ args) (drop i cs) ≡ (fits_at (slice_get cs i) a.operand && are_shown args (drop (i + 1) cs))
shown_past a args cs i h e =
    ap (λ ds. are_shown (a ∷ args) ds) (drop_all i cs h) ∙ ap (λ o. fits_at o a.operand && are_shown args (drop (i + 1) cs)) (sym e)

shown_at : (a : Shown) (args : List Shown) (cs : List Conversion) (i : ℕ)
    → are_shown (a ∷ args) (drop i cs) ≡ (fits_at (slice_get cs i) a.operand && are_shown args (drop (i + 1) cs))
shown_at a args cs i =
    elim (slice_get_cases cs i).1 [
      | inl w ↦ ap (λ ds. are_shown (a ∷ args) ds) (rest_of cs i w.0 w.1 (sym w.3)) ∙ ap (λ o. fits_at o a.operand && are_shown args (drop (i + 1) cs)) (sym w.2)
      | inr w ↦ shown_past a args cs i w.0 w.1
    ]

-- one argument more
pub shown_next : (args : List Shown) (cs : List Conversion) (i : ℕ) (a : Shown) → i < length args → a ≡ get_or args i a
    → are_shown (drop i args) (drop i cs) ≡ (fits_at (slice_get cs i) a.operand && are_shown (drop (i + 1) args) (drop (i + 1) cs))
shown_next args cs i a h e =
    ap (λ xs. are_shown xs (drop i cs)) (rest_of args i a h e) ∙ shown_at a (drop (i + 1) args) cs i
