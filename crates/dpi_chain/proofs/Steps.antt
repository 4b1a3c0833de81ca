-- The steps of a chain that is read from the left, and the tree that it stands for.
use Rattle.std.proofs.Common.{◌≡◌, ℕ, ◌+◌, ◌-◌, ◌<◌, ◌≤◌, List, [], ◌∷◌, ◌++◌, length, take, Some, refl, sym, ap, ◌∙◌, arith, subst}
use Rattle.std.specs.Prelude.{slice_get, Result, Ok, Err, IfOk}
use Rattle.std.proofs.lemmas.Option.{slice_get_within, get_or_from_slice_get}
use Rattle.std.proofs.lemmas.List.{take_more, take_all}
use Rattle.std.proofs.lemmas.Bool.{le-ltb, lt-ltb}
use Rattle.dpi_chain.specs.Tree.{Tree, leaf, node, with_link, value_of}
use Rattle.dpi_chain.specs.Reading.{IsAbove, StandsFor}
use Rattle.dpi_chain.specs.declared.chain.Open.{Open}

-- a list and its last item
pub last_apart : {X : Type 0} (xs : List X) (x : X) → slice_get xs (length xs - 1) ≡ Some x → xs ≡ take (length xs - 1) xs ++ x ∷ []
last_apart xs x h =
    let k = slice_get_within xs (length xs - 1) x h in
    let n : length xs ≤ length xs - 1 + 1 = omega (arith, k) in
    sym (take_all (length xs - 1 + 1) xs n) ∙ take_more xs (length xs - 1) x k ∙ ap (λ y. take (length xs - 1) xs ++ y ∷ []) (get_or_from_slice_get xs (length xs - 1) x x h)

module _ {O V : Type 0} (rank : O → ℕ) (joined : O → V → V → V) where
  abbrev Stands : ℕ → ℕ → ℕ → List (Open O V) → V → Tree O V → Type 0
  Stands = StandsFor rank joined

  -- the number from which the ranks rise is at most the last one
  least_most : (low high floor : ℕ) (fs : List (Open O V)) (v : V) (t : Tree O V) → Stands low high floor fs v t → low ≤ high
  least_most low high floor [] v t h = h.0
  least_most low high floor (f ∷ fs) v (leaf w) h = absurd h
  least_most low high floor (f ∷ fs) v (node o l r) h = let k = least_most (rank o + 1) high floor fs v r h.3 in omega (arith, k, h.0)

  -- nothing is left to complete
  pub none : (high floor : ℕ) (v : V) (t : Tree O V) → Stands 0 high floor [] v t → Stands 0 floor floor [] v t
  none high floor v t h = (omega arith, h.1, h.2)

  -- the last operator binds less
  pub stays : (low high floor : ℕ) (fs : List (Open O V)) (f : Open O V) (v : V) (t : Tree O V)
      → rank f.operator < floor → Stands low high floor (fs ++ f ∷ []) v t → Stands low floor floor (fs ++ f ∷ []) v t
  stays low high floor [] f v (leaf w) less h = absurd h
  stays low high floor [] f v (node o l r) less h =
      let e : rank f.operator ≡ rank o = ap rank h.1 in
      (h.0, h.1, h.2, (omega (arith, e, less), h.3.1, h.3.2))
  stays low high floor (g ∷ fs) f v (leaf w) less h = absurd h
  stays low high floor (g ∷ fs) f v (node o l r) less h = (h.0, h.1, h.2, stays (rank o + 1) high floor fs f v r less h.3)

  -- the last operator is complete
  pub completes : (low high floor : ℕ) (fs : List (Open O V)) (f : Open O V) (v : V) (t : Tree O V)
      → floor ≤ rank f.operator → Stands low high floor (fs ++ f ∷ []) v t → Stands low (rank f.operator) floor fs (joined f.operator f.left v) t
  completes low high floor [] f v (leaf w) more h = absurd h
  completes low high floor [] f v (node o l r) more h =
      let e : rank f.operator ≡ rank o = ap rank h.1 in
      (omega (arith, e, h.0), omega (arith, e, more), ap (λ p. joined p f.left v) h.1 ∙ ap (λ x. joined o x v) h.2 ∙ ap (joined o (value_of joined l)) h.3.2)
  completes low high floor (g ∷ fs) f v (leaf w) more h = absurd h
  completes low high floor (g ∷ fs) f v (node o l r) more h = (h.0, h.1, h.2, completes (rank o + 1) high floor fs f v r more h.3)

  above : (t : Tree O V) (o : O) (w : V) → IsAbove rank joined (rank o) t → with_link rank t o w ≡ node o t (leaf w)
  above (leaf v) o w h = refl
  above (node p l r) o w h = rw (le-ltb (rank p) (rank o) h) refl

  -- one more operator and its operand
  pub grows : (low floor : ℕ) (fs : List (Open O V)) (o : O) (v w : V) (t : Tree O V)
      → Stands low (rank o) (rank o) fs v t → Stands low (rank o + 1) floor (fs ++ record { operator = o; left = v } ∷ []) w (with_link rank t o w)
  grows low floor [] o v w t h = rw (above t o w h.1) (h.0, refl, h.2, (omega arith, tt, refl))
  grows low floor (f ∷ fs) o v w (leaf u) h = absurd h
  grows low floor (f ∷ fs) o v w (node p l r) h =
      let k = least_most (rank p + 1) (rank o) (rank o) fs v r h.3 in
      let less : rank p < rank o = omega (arith, k) in
      rw (lt-ltb (rank p) (rank o) less) (h.0, h.1, h.2, grows (rank p + 1) floor fs o v w r h.3)

  -- the whole chain
  pub ends : (floor : ℕ) (fs : List (Open O V)) (v : V) (t : Tree O V) → Stands 0 0 floor fs v t → v ≡ value_of joined t
  ends floor [] v t h = h.2
  ends floor (f ∷ fs) v (leaf w) h = absurd h
  ends floor (f ∷ fs) v (node o l r) h = let k = least_most (rank o + 1) 0 floor fs v r h.3 in absurd (omega (arith, k))

  pub stays_at : (high floor : ℕ) (fs : List (Open O V)) (f : Open O V) (v : V) (t : Tree O V)
      → slice_get fs (length fs - 1) ≡ Some f → rank f.operator < floor → Stands 0 high floor fs v t → Stands 0 floor floor fs v t
  stays_at high floor fs f v t at less h =
      let e = last_apart fs f at in
      subst (λ xs. Stands 0 floor floor xs v t) (sym e) (stays 0 high floor (take (length fs - 1) fs) f v t less (subst (λ xs. Stands 0 high floor xs v t) e h))

  pub completes_at : (high floor : ℕ) (fs : List (Open O V)) (f : Open O V) (v : V) (t : Tree O V)
      → slice_get fs (length fs - 1) ≡ Some f → floor ≤ rank f.operator → Stands 0 high floor fs v t → Stands 0 (rank f.operator) floor (take (length fs - 1) fs) (joined f.operator f.left v) t
  completes_at high floor fs f v t at more h =
      completes 0 high floor (take (length fs - 1) fs) f v t more (subst (λ xs. Stands 0 high floor xs v t) (last_apart fs f at) h)

-- what holds of a result holds of what follows from it
pub mapped : {T E : Type 0} (r : Result T E) (P Q : T → Type 0) → ((x : T) → P x → Q x) → IfOk r P → IfOk r Q
mapped (Ok x) P Q f h = f x h
mapped (Err e) P Q f h = h

pub of_ok : {T E : Type 0} (r : Result T E) (P : T → Type 0) (x : T) → r ≡ Ok x → IfOk r P → P x
of_ok (Ok y) P x e h = let k : y ≡ x = cc in subst P k h
of_ok (Err d) P x e h = absurd (cc)
