-- What is reached, layer by layer.
use Rattle.std.proofs.Common.{◌≡◌, ℕ, zero, suc, ◌+◌, ◌-◌, ◌<◌, ◌≤◌, Bool, true, false, List, [], ◌∷◌, ◌++◌, length, take, get_or, flat_map, refl, sym, ap, ◌∙◌, subst, add-one, arith, inl, inr}
use Rattle.std.specs.Prelude.{◌||◌, ◌&&◌, not, ◌==◌}
use Rattle.std.specs.List.{list_any}
use Rattle.std.proofs.lemmas.List.{take_more, take_all}
use Rattle.std.proofs.lemmas.List.Folds.{list_any-append}
use Rattle.std.proofs.lemmas.Grind.{flat_map-append}
use Rattle.std.proofs.lemmas.Bool.{false≢true, eqb-true, eq-eqb, cases_lt, cases_Bool, or_cases, or_left, or_right, and_parts, and_from, not_from_false}
use Rattle.sv_instances.specs.declared.preorder.Child.{Child}
use Rattle.sv_instances.specs.Tops.{marked, Marks}
use Rattle.sv_instances.specs.Cycles.{is_in, parts, reached, IsSpread}
use Rattle.sv_instances.proofs.Marked.{or_false}

same_bool : (a b : Bool) → (a ≡ true → b ≡ true) → (b ≡ true → a ≡ true) → a ≡ b
same_bool true b h k = sym (h refl)
same_bool false true h k = k refl
same_bool false false h k = refl

or_assoc : (a b c : Bool) → ((a || b) || c) ≡ (a || (b || c))
or_assoc true b c = refl
or_assoc false b c = refl

-- two steps, the second of which finds the marks of the first
fresh_both : (l x y a : Bool) → ((l || (x && not a)) || (y && not (a || x))) ≡ (l || ((x || y) && not a))
fresh_both true x y a = refl
fresh_both false true true true = refl
fresh_both false true false true = refl
fresh_both false true y false = refl
fresh_both false false true true = refl
fresh_both false false false true = refl
fresh_both false false true false = refl
fresh_both false false false false = refl

-- the same where there are no marks
fresh_outside : (l x y : Bool) → ((l || (x && true)) || (y && true)) ≡ (l || ((x || y) && true))
fresh_outside true x y = refl
fresh_outside false true y = refl
fresh_outside false false y = refl

pub marked_outside : (marks : List Bool) (k : ℕ) → length marks ≤ k → marked marks k ≡ false
marked_outside [] k h = refl
marked_outside (x ∷ xs) zero h = absurd (omega arith)
marked_outside (x ∷ xs) (suc k) h = marked_outside xs k (omega arith)

pub spread_none : (marks : List Bool) (list : List ℕ) → IsSpread marks list [] marks list
spread_none marks list = record { long = refl; marks_are = λ k h. sym (or_false (marked marks k)); list_is = λ k. sym (or_false (is_in list k)) }

-- numbers in two parts
pub spread_both : {a b c : List Bool} {l m n : List ℕ} (xs ys : List ℕ) → IsSpread a l xs b m → IsSpread b m ys c n → IsSpread a l (xs ++ ys) c n
spread_both {a} {b} {c} {l} {m} {n} xs ys one two = record {
  long = two.long ∙ one.long;
  marks_are = λ k h.
      let P : ℕ → Type 0 = λ j. k < j in
      two.marks_are k (subst P (sym one.long) h)
      ∙ ap (λ t. t || is_in ys k) (one.marks_are k h)
      ∙ or_assoc (marked a k) (is_in xs k) (is_in ys k)
      ∙ ap (λ t. marked a k || t) (sym (list_any-append (λ j. j == k) xs ys));
  list_is = λ k.
      let below : k < length a → ((is_in l k || (is_in xs k && not (marked a k))) || (is_in ys k && not (marked b k))) ≡ (is_in l k || ((is_in xs k || is_in ys k) && not (marked a k))) = λ h.
      rw (one.marks_are k h) (fresh_both (is_in l k) (is_in xs k) (is_in ys k) (marked a k)) in
      let outside : length a ≤ k → ((is_in l k || (is_in xs k && not (marked a k))) || (is_in ys k && not (marked b k))) ≡ (is_in l k || ((is_in xs k || is_in ys k) && not (marked a k))) = λ h.
      let P : ℕ → Type 0 = λ j. j ≤ k in
      rw (marked_outside a k h) (rw (marked_outside b k (subst P (sym one.long) h)) (fresh_outside (is_in l k) (is_in xs k) (is_in ys k))) in
      two.list_is k
      ∙ ap (λ t. t || (is_in ys k && not (marked b k))) (one.list_is k)
      ∙ elim (cases_lt k (length a)) [ inl h ↦ below h | inr h ↦ outside h ]
      ∙ ap (λ t. is_in l k || (t && not (marked a k))) (sym (list_any-append (λ j. j == k) xs ys));
}

append_none : (xs : List ℕ) → xs ++ [] ≡ xs
append_none [] = refl
append_none (x ∷ xs) = ap (λ ys. x ∷ ys) (append_none xs)

-- a loop that takes the numbers of one more element
pub spread_next : {X : Type 0} (f : X → List ℕ) {a b c : List Bool} {l m n : List ℕ} (xs : List X) (i : ℕ) (x : X) → i < length xs → x ≡ get_or xs i x → IsSpread b m (f x) c n → IsSpread a l (flat_map f (take i xs)) b m → IsSpread a l (flat_map f (take (i + 1) xs)) c n
spread_next {X} f {a} {b} {c} {l} {m} {n} xs i x h e next loop =
    let more : flat_map f (take (i + 1) xs) ≡ flat_map f (take i xs) ++ f x =
    ap (flat_map f) (take_more xs i x h ∙ ap (λ y. take i xs ++ y ∷ []) (sym e))
    ∙ flat_map-append f (take i xs) (x ∷ [])
    ∙ ap (λ ys. flat_map f (take i xs) ++ ys) (append_none (f x)) in
    let P : List ℕ → Type 0 = λ ys. IsSpread a l ys c n in
    subst P (sym more) (spread_both (flat_map f (take i xs)) (f x) loop next)

pub spread_last : {X : Type 0} (f : X → List ℕ) {a b : List Bool} {l m : List ℕ} (xs : List X) (i : ℕ) → length xs ≤ i → IsSpread a l (flat_map f (take i xs)) b m → IsSpread a l (flat_map f xs) b m
spread_last f {a} {b} {l} {m} xs i h loop =
    let P : List ℕ → Type 0 = λ ys. IsSpread a l ys b m in
    subst P (ap (flat_map f) (take_all i xs h)) loop

-- a test that some number among these passes
pub witness : (p : ℕ → Bool) (xs : List ℕ) (goal : Bool) → ((j : ℕ) → is_in xs j ≡ true → p j ≡ true → goal ≡ true) → list_any p xs ≡ true → goal ≡ true
witness p [] goal f h = absurd (false≢true h)
witness p (x ∷ xs) goal f h = elim (or_cases (p x) (list_any p xs) h) [
  | inl here ↦ f x (or_left (x == x) (is_in xs x) (eq-eqb x x refl)) here
  | inr rest ↦ witness p xs goal (λ j among. f j (or_right (x == j) (is_in xs j) among)) rest
]

passes : (p : ℕ → Bool) (xs : List ℕ) (j : ℕ) → is_in xs j ≡ true → p j ≡ true → list_any p xs ≡ true
passes p [] j h k = absurd (false≢true h)
passes p (x ∷ xs) j h k = elim (or_cases (x == j) (is_in xs j) h) [
  | inl here ↦ or_left (p x) (list_any p xs) (ap p (eqb-true x j here) ∙ k)
  | inr rest ↦ or_right (p x) (list_any p xs) (passes p xs j rest k)
]

pub in_flat : (f : ℕ → List ℕ) (xs : List ℕ) (k : ℕ) → is_in (flat_map f xs) k ≡ list_any (λ j. is_in (f j) k) xs
in_flat f [] k = refl
in_flat f (x ∷ xs) k = list_any-append (λ n. n == k) (f x) (flat_map f xs) ∙ ap (λ t. is_in (f x) k || t) (in_flat f xs k)

-- where one item more leads nowhere new, no number of items more does
stays : (children : List (List Child)) (from n d m : ℕ) → m ≡ d + n → ((k : ℕ) → is_in (reached children from (suc n)) k ≡ true → is_in (reached children from n) k ≡ true) → (k : ℕ) → is_in (reached children from m) k ≡ is_in (reached children from n) k
stays children from n zero m e closed k =
    let same : m ≡ n = omega (arith, e) in
    ap (λ i. is_in (reached children from i) k) same
stays children from n (suc d) m e closed k =
    let f = parts children in
    let before = reached children from (d + n) in
    let old = reached children from n in
    let last : m ≡ suc (d + n) = omega (arith, e) in
    let hyp = stays children from n d (d + n) refl closed in
    let new : is_in (flat_map f before) k ≡ true → is_in old k ≡ true = λ h.
    witness (λ j. is_in (f j) k) before (is_in old k) (λ j among part.
    closed k (list_any-append (λ i. i == k) old (flat_map f old)
    ∙ or_right (is_in old k) (is_in (flat_map f old) k) (in_flat f old k ∙ passes (λ i. is_in (f i) k) old j (sym (hyp j) ∙ among) part)))
    (sym (in_flat f before k) ∙ h) in
    ap (λ i. is_in (reached children from i) k) last
    ∙ list_any-append (λ i. i == k) before (flat_map f before)
    ∙ same_bool (is_in before k || is_in (flat_map f before) k) (is_in old k)
    (λ h. elim (or_cases (is_in before k) (is_in (flat_map f before) k) h) [ inl a ↦ sym (hyp k) ∙ a | inr b ↦ new b ])
    (λ h. or_left (is_in before k) (is_in (flat_map f before) k) (hyp k ∙ h))

-- after so many layers: what is marked, and what the last layer adds
pub record IsReached (children : List (List Child)) (from n : ℕ) (marks : List Bool) (layer : List ℕ) : Type 0 where
  pub marks_are : (k : ℕ) → k < length marks → marked marks k ≡ is_in (reached children from n) k
  pub next_are : (k : ℕ) → is_in (reached children from (suc n)) k ≡ (is_in (reached children from n) k || is_in (flat_map (parts children) layer) k)

pub reached_first : (children : List (List Child)) (from : ℕ) (none marks : List Bool) → length marks ≡ length none → ((k : ℕ) → marked none k ≡ false) → Marks none (λ k. from == k) marks → IsReached children from 0 marks (from ∷ [])
reached_first children from none marks long empty m = record {
  marks_are = λ k h.
      let P : ℕ → Type 0 = λ j. k < j in
      m k (subst P long h) ∙ ap (λ t. t || (from == k)) (empty k) ∙ sym (or_false (from == k));
  next_are = λ k. list_any-append (λ j. j == k) (from ∷ []) (flat_map (parts children) (from ∷ []));
}

layer_more : {children : List (List Child)} {from n : ℕ} {marks marks' : List Bool} {layer layer' : List ℕ} → IsSpread marks [] (flat_map (parts children) layer) marks' layer' → IsReached children from n marks layer → (k : ℕ) → is_in (flat_map (parts children) (reached children from (suc n))) k ≡ true → (is_in (reached children from (suc n)) k || is_in (flat_map (parts children) layer') k) ≡ true
layer_more {children} {from} {n} {marks} {marks'} {layer} {layer'} spread loop k h =
    let f = parts children in
    let before = reached children from n in
    let goal = is_in (reached children from (suc n)) k || is_in (flat_map f layer') k in
    let next = flat_map f layer in
    let within : (j : ℕ) → is_in before j ≡ true → is_in (f j) k ≡ true → goal ≡ true = λ j among part.
    or_left (is_in (reached children from (suc n)) k) (is_in (flat_map f layer') k)
    (list_any-append (λ i. i == k) before (flat_map f before)
    ∙ or_right (is_in before k) (is_in (flat_map f before) k) (in_flat f before k ∙ passes (λ i. is_in (f i) k) before j among part)) in
    let old : (j : ℕ) → marked marks j ≡ true → is_in before j ≡ true = λ j m.
    elim (cases_lt j (length marks)) [
      | inl below ↦ sym (loop.marks_are j below) ∙ m
      | inr outside ↦ absurd (false≢true (sym (marked_outside marks j outside) ∙ m))
    ] in
    let fresh : (j : ℕ) → is_in next j ≡ true → marked marks j ≡ false → is_in (f j) k ≡ true → goal ≡ true = λ j among m part.
    let listed : is_in layer' j ≡ true = spread.list_is j ∙ and_from (is_in next j) (not (marked marks j)) among (not_from_false (marked marks j) m) in
    or_right (is_in (reached children from (suc n)) k) (is_in (flat_map f layer') k) (in_flat f layer' k ∙ passes (λ i. is_in (f i) k) layer' j listed part) in
    witness (λ j. is_in (f j) k) (reached children from (suc n)) goal (λ j among part.
    elim (or_cases (is_in before j) (is_in next j) (sym (loop.next_are j) ∙ among)) [
      | inl a ↦ within j a part
      | inr b ↦ elim (cases_Bool (marked marks j)) [
        | inl m ↦ within j (old j m) part
        | inr m ↦ fresh j b m part
      ]
    ]) (sym (in_flat f (reached children from (suc n)) k) ∙ h)

layer_less : {children : List (List Child)} {from n : ℕ} {marks marks' : List Bool} {layer layer' : List ℕ} → IsSpread marks [] (flat_map (parts children) layer) marks' layer' → IsReached children from n marks layer → (k : ℕ) → is_in (flat_map (parts children) layer') k ≡ true → is_in (flat_map (parts children) (reached children from (suc n))) k ≡ true
layer_less {children} {from} {n} {marks} {marks'} {layer} {layer'} spread loop k h =
    let f = parts children in
    let next = flat_map f layer in
    let all = reached children from (suc n) in
    witness (λ j. is_in (f j) k) layer' (is_in (flat_map f all) k) (λ j among part.
    let fresh = (and_parts (is_in next j) (not (marked marks j)) (sym (spread.list_is j) ∙ among)).0 in
    in_flat f all k ∙ passes (λ i. is_in (f i) k) all j (loop.next_are j ∙ or_right (is_in (reached children from n) j) (is_in next j) fresh) part
    ) (sym (in_flat f layer' k) ∙ h)

pub reached_next : {children : List (List Child)} {from n : ℕ} {marks marks' : List Bool} {layer layer' : List ℕ} → IsSpread marks [] (flat_map (parts children) layer) marks' layer' → IsReached children from n marks layer → IsReached children from (n + 1) marks' layer'
reached_next {children} {from} {n} {marks} {marks'} {layer} {layer'} spread loop =
    let f = parts children in
    let all = reached children from (suc n) in
    let rest = is_in (flat_map f all) in
    let last = is_in (flat_map f layer') in
    let P : ℕ → Type 0 = λ i. IsReached children from i marks' layer' in
    subst P (sym (add-one n)) (record {
      marks_are = λ k h.
          let Q : ℕ → Type 0 = λ j. k < j in
          spread.marks_are k (subst Q spread.long h)
          ∙ ap (λ t. t || is_in (flat_map f layer) k) (loop.marks_are k (subst Q spread.long h))
          ∙ sym (loop.next_are k);
      next_are = λ k.
          list_any-append (λ j. j == k) all (flat_map f all)
          ∙ same_bool (is_in all k || rest k) (is_in all k || last k)
          (λ h. elim (or_cases (is_in all k) (rest k) h) [ inl a ↦ or_left (is_in all k) (last k) a | inr b ↦ layer_more spread loop k b ])
          (λ h. elim (or_cases (is_in all k) (last k) h) [ inl a ↦ or_left (is_in all k) (rest k) a | inr b ↦ or_right (is_in all k) (rest k) (layer_less spread loop k b) ]);
    })

-- nothing more is reached where the last layer is empty
pub reached_last : {children : List (List Child)} {from n : ℕ} {marks : List Bool} {layer : List ℕ} → layer ≡ [] → (m : ℕ) → n ≤ m → IsReached children from n marks layer → (k : ℕ) → k < length marks → marked marks k ≡ is_in (reached children from m) k
reached_last {children} {from} {n} {marks} {layer} none m h loop k below =
    let closed : (j : ℕ) → is_in (reached children from (suc n)) j ≡ true → is_in (reached children from n) j ≡ true = λ j among.
    sym (loop.next_are j ∙ ap (λ ys. is_in (reached children from n) j || is_in (flat_map (parts children) ys) j) none ∙ or_false (is_in (reached children from n) j)) ∙ among in
    loop.marks_are k below ∙ sym (stays children from n (m - n) m (omega (arith, h)) closed k)
