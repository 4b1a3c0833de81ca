-- Loops that keep the first of each name.
use Rattle.std.proofs.Common.{◌≡◌, ℕ, suc, ◌+◌, ◌<◌, ◌≤◌, List, [], ◌∷◌, length, map, drop, get_or, refl, sym, ap, ◌∙◌, add-one, Option, Some, None}
use Rattle.std.specs.Option.{option_or}
use Rattle.std.proofs.Math.Seq.{drop-cons}
use Rattle.std.proofs.lemmas.List.{drop_all}
use Rattle.c_calls.specs.Refusals.{or_else}
use Rattle.dpi_links.specs.Firsts.{first_given}

or_assoc : {A : Type 0} (a b c : Option A) → option_or (option_or a b) c ≡ option_or a (option_or b c)
or_assoc None b c = refl
or_assoc (Some x) b c = refl

pub or_none : {A : Type 0} (a : Option A) → option_or a None ≡ a
or_none None = refl
or_none (Some x) = refl

-- both words for the first that is there
pub or_is : {A : Type 0} (a b : Option A) → or_else a b ≡ option_or a b
or_is None b = refl
or_is (Some x) b = refl

-- what is given by the values that are seen of these
pub first_map : {X Y A : Type 0} (f : X → Y) (give : Y → List ℕ → Option A) (xs : List X) (q : List ℕ) → first_given (λ x. give (f x)) xs q ≡ first_given give (map f xs) q
first_map f give [] q = refl
first_map f give (x ∷ xs) q = ap (option_or (give (f x) q)) (first_map f give xs q)

-- The invariant of a loop over `xs`: what is kept, and what those left over give, comes to the same
-- as all.
pub record IsGathered {X A : Type 0} (give : X → List ℕ → Option A) (start : List ℕ → Option A) (xs left : List X) (kept : List ℕ → Option A) : Type 0 where
  pub same : (q : List ℕ) → option_or (start q) (first_given give xs q) ≡ option_or (kept q) (first_given give left q)

pub gathered_first : {X A : Type 0} (give : X → List ℕ → Option A) (start : List ℕ → Option A) (xs : List X) → IsGathered give start xs (drop 0 xs) start
gathered_first give start xs = record { same = λ q. refl }

pub rest_of : {X : Type 0} (xs : List X) (i : ℕ) (x : X) → i < length xs → x ≡ get_or xs i x → drop i xs ≡ x ∷ drop (i + 1) xs
rest_of xs i x h e = rw add-one (drop-cons xs i x h ∙ ap (λ y. y ∷ drop (suc i) xs) (sym e))

-- one more
pub gathered_next : {X A : Type 0} (give : X → List ℕ → Option A) {start kept : List ℕ → Option A} (xs : List X) (i : ℕ) (x : X) → i < length xs → x ≡ get_or xs i x → (next : List ℕ → Option A) → ((q : List ℕ) → next q ≡ option_or (kept q) (give x q)) → IsGathered give start xs (drop i xs) kept → IsGathered give start xs (drop (i + 1) xs) next
gathered_next give {start} {kept} xs i x h e next more loop = record {
  same = λ q.
      loop.same q
      ∙ ap (λ ys. option_or (kept q) (first_given give ys q)) (rest_of xs i x h e)
      ∙ sym (or_assoc (kept q) (give x q) (first_given give (drop (i + 1) xs) q))
      ∙ ap (λ o. option_or o (first_given give (drop (i + 1) xs) q)) (sym (more q));
}

-- nothing is left
pub gathered_last : {X A : Type 0} (give : X → List ℕ → Option A) {start kept : List ℕ → Option A} (xs : List X) (i : ℕ) → length xs ≤ i → IsGathered give start xs (drop i xs) kept → (q : List ℕ) → kept q ≡ option_or (start q) (first_given give xs q)
gathered_last give {start} {kept} xs i h loop q =
    sym (loop.same q ∙ ap (λ ys. option_or (kept q) (first_given give ys q)) (drop_all i xs h) ∙ or_none (kept q))
