-- The cell that an index list names, one index after the other.
use Rattle.std.proofs.Common.{◌≡◌, ℕ, zero, suc, ◌+◌, ◌*◌, ◌<◌, ◌≤◌, ◌↔◌, ℤ, pos, ◌+ℤ◌, Bool, true}
use Rattle.std.proofs.Common.{false, cond, List, [], ◌∷◌, ◌++◌, length, take, drop, get_or, refl}
use Rattle.std.proofs.Common.{ap, sym, ◌∙◌, arith, Option, Some, None, IsSome, IfSome, subst}
use Rattle.std.specs.Prelude.{◌<ℤ◌, ◌≤ℤ◌, ◌-ℤ◌, unsigned_abs}
use Rattle.std.specs.Option.{option_map}
use Rattle.std.specs.List.{position_from, AllZip}
use Rattle.std.specs.Cmp.Rules.{signed_items}
use Rattle.std.proofs.Math.Nat.{mul_comm, mul-le-mul_right}
use Rattle.std.proofs.lemmas.Int.{ints, by_lt_z}
use Rattle.std.proofs.lemmas.Iterator.Adapters.{position_from-zero}
use Rattle.std.proofs.lemmas.List.Quantifiers.{position-Some}
use Rattle.dpi_shape.specs.declared.range.Range.{Range}
use Rattle.dpi_shape.specs.Range.{lower, upper, size, IsIndex}
use Rattle.dpi_shape.specs.Dims.{index_lists, elements}
use Rattle.dpi_shape.specs.Shape.{first_element, sum_of}
use Rattle.dpi_shape.proofs.Elements.{elements-cons, elements-some, least_factor}
use Rattle.dpi_shape.proofs.Places.{begins, place-inside, place-below, place-outside}

first_element-from : (rs : List Range) (is : List ℤ)
    → first_element rs is ≡ position_from (begins is) 0 (index_lists rs)
first_element-from rs is = position_from-zero (begins is) (index_lists rs)

shifted : (b : Bool) (k : ℕ) (u v w : Option ℕ) → u ≡ option_map (λ m. k + 1 + m) w
    → v ≡ option_map (λ m. 1 + m) w
    → cond b (Some k) u ≡ option_map (λ m. k + m) (cond b (Some 0) v)
shifted true k u v w p q = ap Some (omega arith)
shifted false k u v None p q = p ∙ ap (option_map (λ m. k + m)) (sym q)
shifted false k u v (Some m) p q =
    let e : k + 1 + m ≡ k + (1 + m) = omega arith in
    p ∙ ap Some e ∙ ap (option_map (λ n. k + n)) (sym q)

position_from-shift : {A : Type 0} (p : A → Bool) (k : ℕ) (xs : List A)
    → position_from p k xs ≡ option_map (λ m. k + m) (position_from p 0 xs)
position_from-shift p k [] = refl
position_from-shift p k (x ∷ xs) =
    shifted (p x) k _ _ (position_from p 0 xs) (position_from-shift p (k + 1) xs)
    (position_from-shift p (0 + 1) xs)

pub index_below : (r : Range) (i : ℤ) (e : ℕ) → IsIndex r i → (lower r +ℤ pos e) ≡ i → e < size r
index_below r i e h at = grind (arith, ints)

above_all : (r : Range) (i : ℤ) → upper r <ℤ i → (lower r +ℤ pos (size r)) ≤ℤ i
above_all r i h = grind (arith, ints)

first_of_some : (xs : List (List ℤ)) → 1 ≤ length xs → position_from (begins []) 0 xs ≡ Some 0
first_of_some [] h = absurd (omega arith)
first_of_some (x ∷ xs) h = refl

pub first_element-none : (rs : List Range) → first_element rs [] ≡ Some 0
first_element-none rs = first_element-from rs [] ∙ first_of_some (index_lists rs) (elements-some rs)

pub first_element-inside : (r : Range) (rs : List Range) (i : ℤ) (is : List ℤ) (e : ℕ) → IsIndex r i
    → (lower r +ℤ pos e) ≡ i → first_element (r ∷ rs) (i ∷ is)
    ≡ option_map (λ m. e * elements rs + m) (first_element rs is)
unfolding index_lists
first_element-inside r rs i is e h at =
    first_element-from (r ∷ rs) (i ∷ is)
    ∙ place-inside (index_lists rs) i (lower r) is (size r) e 0 (index_below r i e h at) at
    ∙ ap (λ k. position_from (begins is) k (index_lists rs)) (omega arith)
    ∙ position_from-shift (begins is) (e * elements rs) (index_lists rs)
    ∙ ap (option_map (λ m. e * elements rs + m)) (sym (first_element-from rs is))

pub first_element-outside : (r : Range) (rs : List Range) (i : ℤ) (is : List ℤ) → (IsIndex r i → ⊥)
    → first_element (r ∷ rs) (i ∷ is) ≡ None
unfolding index_lists
first_element-outside r rs i is h =
    first_element-from (r ∷ rs) (i ∷ is)
    ∙ by_lt_z i (lower r)
    (λ under. place-below (index_lists rs) i (lower r) is (size r) 0 under)
    (λ from. by_lt_z (upper r) i
    (λ over. place-outside (index_lists rs) i (lower r) is (size r) 0 (above_all r i over))
    (λ to. absurd (h (from, to))))

-- what the indices name, or nothing
abbrev pub scaled : ℕ → Option ℕ → Option ℕ
scaled each o = option_map (λ k. k * each) o

after_first : (n : ℕ) (a b : Option ℕ)
    → option_map (λ m. n + m) (sum_of a b) ≡ sum_of (option_map (λ m. n + m) a) b
after_first n None b = refl
after_first n (Some k) None = refl
after_first n (Some k) (Some m) = ap Some (omega arith)

pub scaled-sum : (each : ℕ) (a b : Option ℕ)
    → scaled each (sum_of a b) ≡ sum_of (scaled each a) (scaled each b)
scaled-sum each None b = refl
scaled-sum each (Some k) None = refl
scaled-sum each (Some k) (Some m) = ap Some (grind arith)

-- an index is inside, with its number, or outside
pub inside_or_outside : {P : Type 0} (r : Range) (i : ℤ)
    → ((e : ℕ) → IsIndex r i → (lower r +ℤ pos e) ≡ i → P) → ((IsIndex r i → ⊥) → P) → P
inside_or_outside r i inner outer =
    by_lt_z i (lower r)
    (λ under. outer (λ h. absurd (omega (arith, ints))))
    (λ from. by_lt_z (upper r) i
    (λ over. outer (λ h. absurd (omega (arith, ints))))
    (λ to. inner (unsigned_abs (i -ℤ lower r)) (from, to) (grind (arith, ints))))

from_zero : (b : Option ℕ) → sum_of (Some 0) b ≡ b
from_zero None = refl
from_zero (Some m) = ap Some (omega arith)

pub first_element-append : (rs : List Range) (is js : List ℤ) → length is ≤ length rs
    → first_element rs (is ++ js)
    ≡ sum_of (first_element rs is) (first_element (drop (length is) rs) js)
first_element-append rs [] js h =
    sym (ap (λ o. sum_of o (first_element rs js)) (first_element-none rs) ∙ from_zero _)
first_element-append [] (i ∷ is) js h = absurd (omega arith)
first_element-append (r ∷ rs) (i ∷ is) js h =
    inside_or_outside r i
    (λ e inside at.
    first_element-inside r rs i (is ++ js) e inside at
    ∙ ap (option_map (λ m. e * elements rs + m)) (first_element-append rs is js (omega arith))
    ∙ after_first (e * elements rs) (first_element rs is) _
    ∙ ap (λ o. sum_of o (first_element (drop (length is) rs) js))
    (sym (first_element-inside r rs i is e inside at)))
    (λ outside.
    first_element-outside r rs i (is ++ js) outside
    ∙ ap (λ o. sum_of o (first_element (drop (length is) rs) js))
    (sym (first_element-outside r rs i is outside)))

some_map : (n : ℕ) (o : Option ℕ) → IsSome (option_map (λ m. n + m) o) ↔ IsSome o
some_map n None = ((λ h. h), (λ h. h))
some_map n (Some m) = ((λ h. h), (λ h. h))

not_some : IsSome {T = ℕ} None → ⊥
not_some h = cc

pub first_element-some : (rs : List Range) (is : List ℤ) → length is ≤ length rs
    → IsSome (first_element rs is) ↔ AllZip IsIndex (take (length is) rs) is
first_element-some rs [] h = ((λ s. tt), (λ t. subst IsSome (sym (first_element-none rs)) refl))
first_element-some [] (i ∷ is) h = absurd (omega arith)
first_element-some (r ∷ rs) (i ∷ is) h =
    inside_or_outside r i
    (λ e inside at.
    let here = first_element-inside r rs i is e inside at in
    let rest = first_element-some rs is (omega arith) in
    let both = some_map (e * elements rs) (first_element rs is) in (
      (λ s. (inside, rest.0 (both.0 (subst IsSome here s)))),
      (λ w. subst IsSome (sym here) (both.1 (rest.1 w.1))),
    ))
    (λ outside.
    let here = first_element-outside r rs i is outside in
    ((λ s. absurd (not_some (subst IsSome here s))), (λ w. absurd (outside w.0))))

room_there : (size n part m e : ℕ) → e < size → m + part ≤ n → e * n + m + part ≤ size * n
room_there size n part m e h g = grind arith

room_map : (size n part e : ℕ) (o : Option ℕ) → e < size → IfSome o (λ m. m + part ≤ n)
    → IfSome (option_map (λ m. e * n + m) o) (λ m. m + part ≤ size * n)
room_map size n part e None h g = tt
room_map size n part e (Some m) h g = room_there size n part m e h g

pub first_element-room : (rs : List Range) (is : List ℤ) → length is ≤ length rs
    → IfSome (first_element rs is) (λ m. m + elements (drop (length is) rs) ≤ elements rs)
first_element-room rs [] h =
    subst (λ o. IfSome o (λ m. m + elements rs ≤ elements rs)) (sym (first_element-none rs))
    (omega arith)
first_element-room [] (i ∷ is) h = absurd (omega arith)
first_element-room (r ∷ rs) (i ∷ is) h =
    let part : ℕ = elements (drop (length is) rs) in
    let there : Option ℕ → ℕ → Type 0 = λ o n. IfSome o (λ m. m + part ≤ n) in
    inside_or_outside r i
    (λ e inside at.
    let below : e < size r = index_below r i e inside at in
    let first : Option ℕ = first_element rs is in
    let moved : Option ℕ = option_map (λ m. e * elements rs + m) first in
    let room : there first (elements rs) = first_element-room rs is (omega arith) in
    let deep : there moved (size r * elements rs) = room_map _ _ part e first below room in
    let whole : there moved (elements (r ∷ rs)) =
    subst (there moved) (sym (elements-cons r rs)) deep in
    subst (λ o. there o (elements (r ∷ rs))) (sym (first_element-inside r rs i is e inside at))
    whole)
    (λ outside.
    subst (λ o. there o (elements (r ∷ rs))) (sym (first_element-outside r rs i is outside)) tt)

pub first_element-alone : (rs : List Range) (is js : List ℤ) (m : ℕ) → length js ≡ length is
    → first_element rs is ≡ Some m → first_element rs js ≡ Some m → js ≡ is
first_element-alone rs is js m long p q =
    let a = position-Some (begins is) (index_lists rs) m [] p in
    let b = position-Some (begins js) (index_lists rs) m [] q in
    let x : is ≡ take (length is) (get_or (index_lists rs) m []) = (signed_items is _).0 a.1 in
    let y : js ≡ take (length js) (get_or (index_lists rs) m []) = (signed_items js _).0 b.1 in
    y ∙ ap (λ n. take n (get_or (index_lists rs) m [])) long ∙ sym x

-- fewer dimensions, fewer elements
pub elements-drop_le : (rs : List Range) (n : ℕ) → elements (drop n rs) ≤ elements rs
elements-drop_le rs zero = omega arith
elements-drop_le [] (suc n) = omega arith
elements-drop_le (r ∷ rs) (suc n) =
    let wider : elements rs ≤ elements rs * size r = least_factor _ _ (omega arith) in
    let product : elements (r ∷ rs) ≡ elements rs * size r = elements-cons r rs ∙ mul_comm _ _ in
    omega (arith, elements-drop_le rs n, wider, product)

pub part_small : (rs : List Range) (n each most : ℕ) → elements rs * each ≤ most
    → elements (drop n rs) * each ≤ most
part_small rs n each most h = omega (arith, mul-le-mul_right each (elements-drop_le rs n), h)

pub parts_join : (each : ℕ) (rs rest : List Range) (is js : List ℤ) (n : ℕ) → n ≤ length rs
    → rest ≡ drop n rs → length is ≡ n → scaled each (first_element rs (is ++ js))
    ≡ sum_of (scaled each (first_element rs is)) (scaled each (first_element rest js))
parts_join each rs rest is js n h e long =
    let left : drop (length is) rs ≡ rest = ap (λ k. drop k rs) long ∙ sym e in
    ap (scaled each) (first_element-append rs is js (omega arith))
    ∙ scaled-sum each (first_element rs is) _
    ∙ ap (λ xs. sum_of (scaled each (first_element rs is)) (scaled each (first_element xs js))) left
