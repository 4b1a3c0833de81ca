-- Marks set in a loop.
use Rattle.std.proofs.Common.{◌≡◌, ℕ, ◌+◌, ◌<◌, ◌≤◌, Bool, true, false, List, length, drop, get_or, refl, sym, ap, ◌∙◌, subst}
use Rattle.std.specs.Prelude.{◌||◌}
use Rattle.std.specs.List.{list_any}
use Rattle.std.proofs.lemmas.List.{drop_all}
use Rattle.sv_instances.specs.Tops.{marked, Marks}
use Rattle.sv_instances.proofs.ModuleLists.{rest_of}

or_assoc : (a b c : Bool) → ((a || b) || c) ≡ (a || (b || c))
or_assoc true b c = refl
or_assoc false b c = refl

pub or_false : (a : Bool) → (a || false) ≡ a
or_false true = refl
or_false false = refl

-- the marks, and those that are left over, come to the same as all
pub record IsMarking {X : Type 0} (test : X → ℕ → Bool) (marks : List Bool) (xs left : List X) (marks' : List Bool) : Type 0 where
  pub long : length marks' ≡ length marks
  pub same : (k : ℕ) → k < length marks → (marked marks' k || list_any (λ x. test x k) left) ≡ (marked marks k || list_any (λ x. test x k) xs)

pub marking_first : {X : Type 0} (test : X → ℕ → Bool) (marks : List Bool) (xs : List X) → IsMarking test marks xs (drop 0 xs) marks
marking_first test marks xs = record { long = refl; same = λ k h. refl }

pub marking_next : {X : Type 0} (test : X → ℕ → Bool) {start marks marks' : List Bool} (xs : List X) (i : ℕ) (x : X) → i < length xs → x ≡ get_or xs i x → length marks' ≡ length marks → Marks marks (test x) marks' → IsMarking test start xs (drop i xs) marks → IsMarking test start xs (drop (i + 1) xs) marks'
marking_next test {start} {marks} {marks'} xs i x h e n m loop = record {
  long = n ∙ loop.long;
  same = λ k below.
      let P : ℕ → Type 0 = λ j. k < j in
      let rest = list_any (λ y. test y k) (drop (i + 1) xs) in
      ap (λ b. b || rest) (m k (subst P (sym loop.long) below))
      ∙ or_assoc (marked marks k) (test x k) rest
      ∙ ap (λ ys. marked marks k || list_any (λ y. test y k) ys) (sym (rest_of xs i x h e))
      ∙ loop.same k below;
}

pub marking_last : {X : Type 0} (test : X → ℕ → Bool) {start marks : List Bool} (xs : List X) (i : ℕ) → length xs ≤ i → IsMarking test start xs (drop i xs) marks → Marks start (λ k. list_any (λ x. test x k) xs) marks
marking_last test {start} {marks} xs i h loop = λ k below.
    sym (or_false (marked marks k))
    ∙ ap (λ ys. marked marks k || list_any (λ y. test y k) ys) (sym (drop_all i xs h))
    ∙ loop.same k below
