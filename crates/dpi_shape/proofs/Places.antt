-- Where an index list stands in the list of all.
use Rattle.std.proofs.Common.{◌≡◌, ℕ, zero, suc, ◌+◌, ◌*◌, ◌<◌, ℤ, pos, ◌+ℤ◌, Bool, true, false}
use Rattle.std.proofs.Common.{◌&&◌, cond, List, [], ◌∷◌, ◌++◌, length, refl, ap, sym, ◌∙◌, arith}
use Rattle.std.proofs.Common.{Option, Some, None}
use Rattle.std.specs.Prelude.{◌<ℤ◌, ◌≤ℤ◌}
use Rattle.std.proofs.lemmas.Bool.{false_from_ne_true}
use Rattle.std.specs.List.{flat_map, position_from, starts_with}
use Rattle.std.specs.Ordering.{int_eq}
use Rattle.std.specs.Cmp.{signed_Decides}
use Rattle.std.proofs.lemmas.Int.{ints}
use Rattle.std.proofs.lemmas.List.{length-map}
use Rattle.dpi_shape.specs.Dims.{rising}
use Rattle.dpi_shape.proofs.Elements.{block}

-- the list begins with these indices
abbrev pub begins : List ℤ → List ℤ → Bool
begins is full = starts_with int_eq full is

int_eq-refl : (i : ℤ) → int_eq i i ≡ true
int_eq-refl i = (signed_Decides i i).1 refl

int_eq-other : (i j : ℤ) → (i ≡ j → ⊥) → int_eq i j ≡ false
int_eq-other i j h = false_from_ne_true (int_eq i j) (λ t. h ((signed_Decides i j).0 t))

place-block_same : (i : ℤ) (is : List ℤ) (k : ℕ) (rest : List (List ℤ))
    → position_from (begins (i ∷ is)) k (block rest i) ≡ position_from (begins is) k rest
place-block_same i is k [] = refl
place-block_same i is k (js ∷ rest) =
    let later : Option ℕ = position_from (begins (i ∷ is)) (k + 1) (block rest i) in
    ap (λ b. cond (b && begins is js) (Some k) later) (int_eq-refl i)
    ∙ ap (λ o. cond (begins is js) (Some k) o) (place-block_same i is (k + 1) rest)

place-block_other : (i j : ℤ) (is : List ℤ) (k : ℕ) (rest : List (List ℤ)) → int_eq i j ≡ false
    → position_from (begins (i ∷ is)) k (block rest j) ≡ None
place-block_other i j is k [] h = refl
place-block_other i j is k (js ∷ rest) h =
    let later : Option ℕ = position_from (begins (i ∷ is)) (k + 1) (block rest j) in
    ap (λ b. cond (b && begins is js) (Some k) later) h
    ∙ place-block_other i j is (k + 1) rest h

skipped : (b : Bool) (k : ℕ) (u v w : Option ℕ) → (u ≡ None → v ≡ w) → cond b (Some k) u ≡ None
    → cond b (Some k) v ≡ w
skipped true k u v w f h = cc
skipped false k u v w f h = f h

place-append_none : {A : Type 0} (p : A → Bool) (k : ℕ) (xs ys : List A)
    → position_from p k xs ≡ None
    → position_from p k (xs ++ ys) ≡ position_from p (k + length xs) ys
place-append_none p k [] ys h = ap (λ n. position_from p n ys) (omega arith)
place-append_none p k (x ∷ xs) ys h =
    skipped (p x) k (position_from p (k + 1) xs) _ _
    (λ e. place-append_none p (k + 1) xs ys e ∙ ap (λ n. position_from p n ys) (omega arith)) h

place-append_some : {A : Type 0} (p : A → Bool) (k : ℕ) (xs ys : List A)
    → position_from p (k + length xs) ys ≡ None
    → position_from p k (xs ++ ys) ≡ position_from p k xs
place-append_some p k [] ys h =
    let e : k + 0 ≡ k = omega arith in ap (λ n. position_from p n ys) (sym e) ∙ h
place-append_some p k (x ∷ xs) ys h =
    let e : k + 1 + length xs ≡ k + suc (length xs) = omega arith in
    ap (λ o. cond (p x) (Some k) o)
    (place-append_some p (k + 1) xs ys (ap (λ n. position_from p n ys) e ∙ h))

-- all lists with an index of these in front
abbrev pub blocks : List (List ℤ) → ℤ → ℕ → List (List ℤ)
blocks rest j n = flat_map (block rest) (rising j n)

pub place-below : (rest : List (List ℤ)) (i j : ℤ) (is : List ℤ) (n k : ℕ) → i <ℤ j
    → position_from (begins (i ∷ is)) k (blocks rest j n) ≡ None
unfolding rising
place-below rest i j is zero k h = refl
place-below rest i j is (suc n) k h =
    let other : int_eq i j ≡ false = int_eq-other i j (λ e. omega (arith, ints)) in
    let later : i <ℤ (j +ℤ pos 1) = omega (arith, ints) in
    place-append_none (begins (i ∷ is)) k (block rest j) _ (place-block_other i j is k rest other)
    ∙ place-below rest i (j +ℤ pos 1) is n _ later

pub place-outside : (rest : List (List ℤ)) (i j : ℤ) (is : List ℤ) (n k : ℕ) → (j +ℤ pos n) ≤ℤ i
    → position_from (begins (i ∷ is)) k (blocks rest j n) ≡ None
unfolding rising
place-outside rest i j is zero k h = refl
place-outside rest i j is (suc n) k h =
    let other : int_eq i j ≡ false = int_eq-other i j (λ e. omega (arith, ints)) in
    let later : ((j +ℤ pos 1) +ℤ pos n) ≤ℤ i = omega (arith, ints) in
    place-append_none (begins (i ∷ is)) k (block rest j) _ (place-block_other i j is k rest other)
    ∙ place-outside rest i (j +ℤ pos 1) is n _ later

pub place-inside : (rest : List (List ℤ)) (i j : ℤ) (is : List ℤ) (n e k : ℕ) → e < n
    → (j +ℤ pos e) ≡ i → position_from (begins (i ∷ is)) k (blocks rest j n)
    ≡ position_from (begins is) (k + e * length rest) rest
unfolding rising
place-inside rest i j is zero e k h at = absurd (omega arith)
place-inside rest i j is (suc n) zero k h at =
    let here : j ≡ i = omega (arith, ints) in
    let later : i <ℤ (j +ℤ pos 1) = omega (arith, ints) in
    place-append_some (begins (i ∷ is)) k (block rest j) _
    (place-below rest i (j +ℤ pos 1) is n _ later)
    ∙ ap (λ x. position_from (begins (i ∷ is)) k (block rest x)) here
    ∙ place-block_same i is k rest
    ∙ ap (λ m. position_from (begins is) m rest) (grind arith)
place-inside rest i j is (suc n) (suc e) k h at =
    let other : int_eq i j ≡ false = int_eq-other i j (λ x. omega (arith, ints)) in
    let next : ((j +ℤ pos 1) +ℤ pos e) ≡ i = omega (arith, ints) in
    let long : length (block rest j) ≡ length rest = length-map rest _ in
    let sums : k + length (block rest j) + e * length rest ≡ k + suc e * length rest =
    rw long (grind arith) in
    place-append_none (begins (i ∷ is)) k (block rest j) _ (place-block_other i j is k rest other)
    ∙ place-inside rest i (j +ℤ pos 1) is n e _ (omega arith) next
    ∙ ap (λ m. position_from (begins is) m rest) sums

pub place-none : (k : ℕ) (x : List ℤ) (xs : List (List ℤ))
    → position_from (begins []) k (x ∷ xs) ≡ Some k
place-none k x xs = refl
