-- What is known on the way through the indices.
use Rattle.std.proofs.Common.{◌≡◌, ℕ, ◌+◌, ◌*◌, ◌/◌, ◌<◌, ◌≤◌, ℤ, pos, ◌+ℤ◌, List, ◌∷◌, length}
use Rattle.std.proofs.Common.{drop, get_or, refl, ap, sym, ◌∙◌, arith, Option, Some, None, IsSome}
use Rattle.std.proofs.Common.{◌↔◌, take, subst, add-one, mul_assoc}
use Rattle.std.specs.Option.{option_map}
use Rattle.std.specs.List.{AllZip}
use Rattle.std.proofs.Math.Seq.{drop-cons}
use Rattle.std.proofs.Math.Nat.{div-eq_of_eq-mul_left, eq_of_mul-eq-mul_right}
use Rattle.std.proofs.Math.ListN.{drop_of_length-le}
use Rattle.dpi_shape.specs.declared.range.Range.{Range}
use Rattle.dpi_shape.specs.declared.leaf.Leaf.{Leaf}
use Rattle.dpi_shape.specs.declared.leaf.Leaf.TheVariants.{Bit, Logic, Byte, Short, Int, Long}
use Rattle.dpi_shape.specs.declared.leaf.Leaf.TheVariants.{BitVec, LogicVec}
use Rattle.dpi_shape.specs.Range.{lower, size, IsIndex}
use Rattle.dpi_shape.specs.Leaf.{element_cells}
use Rattle.dpi_shape.specs.Dims.{elements}
use Rattle.dpi_shape.specs.Shape.{first_element, sum_of}
use Rattle.dpi_shape.proofs.Elements.{elements-drop}
use Rattle.dpi_shape.proofs.Cells.{scaled, first_element-inside, first_element-outside}
use Rattle.dpi_shape.proofs.Cells.{first_element-none, first_element-some, first_element-alone}
use Rattle.dpi_shape.proofs.Cells.{index_below}

-- the cells of what is named so far, its first one, and what the other indices add to it
pub record Walks (each : ℕ) (rs : List Range) (is : List ℤ) (stride cell k : ℕ) : Type 0 where
  pub strides : stride ≡ elements (drop k rs) * each
  pub room : cell + stride ≤ elements rs * each
  pub rest : scaled each (first_element rs is) ≡ sum_of (Some cell)
      (scaled each (first_element (drop k rs) (drop k is)))

from_zero : (b : Option ℕ) → b ≡ sum_of (Some 0) b
from_zero None = refl
from_zero (Some m) = ap Some (omega arith)

pub walks-none : (each : ℕ) (rs : List Range) (is : List ℤ)
    → Walks each rs is (elements rs * each) 0 0
walks-none each rs is = record { strides = refl; room = omega arith; rest = from_zero _ }

head-ranges : (rs : List Range) (k : ℕ) (d : Range) → k < length rs
    → drop k rs ≡ get_or rs k d ∷ drop (k + 1) rs
head-ranges rs k d h = drop-cons rs k d h ∙ ap (λ j. get_or rs k d ∷ drop j rs) (sym (add-one k))

head-indices : (is : List ℤ) (k : ℕ) → k < length is
    → drop k is ≡ get_or is k (pos 0) ∷ drop (k + 1) is
head-indices is k h =
    drop-cons is k (pos 0) h ∙ ap (λ j. get_or is k (pos 0) ∷ drop j is) (sym (add-one k))

heads : (rs : List Range) (is : List ℤ) (k : ℕ) (d : Range) → k < length rs → k < length is
    → first_element (drop k rs) (drop k is)
    ≡ first_element (get_or rs k d ∷ drop (k + 1) rs) (get_or is k (pos 0) ∷ drop (k + 1) is)
heads rs is k d h g =
    ap (λ xs. first_element xs (drop k is)) (head-ranges rs k d h)
    ∙ ap (λ xs. first_element (get_or rs k d ∷ drop (k + 1) rs) xs) (head-indices is k g)

quotient : (stride n part each : ℕ) → 0 < n → stride ≡ n * part * each → stride / n ≡ part * each
quotient stride n part each h e = div-eq_of_eq-mul_left h (e ∙ grind arith)

room_left : (cell e n q stride total : ℕ) → e < n → stride ≡ n * q → cell + stride ≤ total
    → cell + e * q + q ≤ total
room_left cell e n q stride total h s r = grind arith

moved : (cell e part each q : ℕ) (o : Option ℕ) → q ≡ part * each
    → sum_of (Some cell) (scaled each (option_map (λ m. e * part + m) o))
    ≡ sum_of (Some (cell + e * q)) (scaled each o)
moved cell e part each q None h = refl
moved cell e part each q (Some m) h = ap Some (rw h (grind arith))

-- the next index is inside
pub walks-more
    : (each : ℕ) (rs : List Range) (is : List ℤ) (stride cell k n e : ℕ) (d : Range) (i : ℤ)
    → k < length rs → k < length is → n ≡ size (get_or rs k d) → i ≡ get_or is k (pos 0)
    → IsIndex (get_or rs k d) i → (lower (get_or rs k d) +ℤ pos e) ≡ i
    → Walks each rs is stride cell k
    → Walks each rs is (stride / n) (cell + e * (stride / n)) (k + 1)
walks-more each rs is stride cell k n e d i h g long index inner place w =
    let inside : IsIndex (get_or rs k d) (get_or is k (pos 0)) =
    subst (IsIndex (get_or rs k d)) index inner in
    let at : (lower (get_or rs k d) +ℤ pos e) ≡ get_or is k (pos 0) = place ∙ index in
    let r : Range = get_or rs k d in
    let part : ℕ = elements (drop (k + 1) rs) in
    let below : e < n = rw long (index_below r (get_or is k (pos 0)) e inside at) in
    let product : stride ≡ n * part * each = w.strides
    ∙ ap (λ x. x * each) (elements-drop rs k d h ∙ ap (λ x. x * part) (sym long)) in
    let q : stride / n ≡ part * each = quotient stride n part each (omega arith) product in
    record {
      strides = q;
      room =
          room_left cell e n (stride / n) stride _ below
          (product ∙ mul_assoc n part each ∙ ap (λ x. n * x) (sym q)) w.room;
      rest =
          w.rest
          ∙ ap (λ o. sum_of (Some cell) (scaled each o)) (heads rs is k d h g)
          ∙ ap (λ o. sum_of (Some cell) (scaled each o)) (first_element-inside r _ _ _ e inside at)
          ∙ moved cell e part each (stride / n) (first_element (drop (k + 1) rs) (drop (k + 1) is))
          q;
    }

-- an index is outside
pub walks-outside
    : (each : ℕ) (rs : List Range) (is : List ℤ) (stride cell k : ℕ) (d : Range) (i : ℤ)
    → k < length rs → k < length is → i ≡ get_or is k (pos 0) → (IsIndex (get_or rs k d) i → ⊥)
    → Walks each rs is stride cell k → scaled each (first_element rs is) ≡ None
walks-outside each rs is stride cell k d i h g index out w =
    let outside : IsIndex (get_or rs k d) (get_or is k (pos 0)) → ⊥ =
    λ inside. out (subst (IsIndex (get_or rs k d)) (sym index) inside) in
    w.rest
    ∙ ap (λ o. sum_of (Some cell) (scaled each o)) (heads rs is k d h g)
    ∙ ap (λ o. sum_of (Some cell) (scaled each o)) (first_element-outside _ _ _ _ outside)

-- no index is left
pub walks-all : (each : ℕ) (rs : List Range) (is : List ℤ) (stride cell k : ℕ) → length is ≤ k
    → Walks each rs is stride cell k → scaled each (first_element rs is) ≡ Some cell
walks-all each rs is stride cell k h w =
    let zero_more : cell + 0 * each ≡ cell = grind arith in
    w.rest
    ∙ ap (λ xs. sum_of (Some cell) (scaled each (first_element (drop k rs) xs)))
    (drop_of_length-le is h)
    ∙ ap (λ o. sum_of (Some cell) (scaled each o)) (first_element-none (drop k rs))
    ∙ ap Some zero_more

-- an element has a cell at least
pub element_cells-some : (leaf : Leaf) → 1 ≤ element_cells leaf
element_cells-some (Bit signed) = omega arith
element_cells-some (Logic signed) = omega arith
element_cells-some (Byte signed) = omega arith
element_cells-some (Short signed) = omega arith
element_cells-some (Int signed) = omega arith
element_cells-some (Long signed) = omega arith
element_cells-some (BitVec range signed) = grind arith
element_cells-some (LogicVec range signed) = grind arith

some_scaled : (each : ℕ) (o : Option ℕ) → IsSome (scaled each o) ↔ IsSome o
some_scaled each None = ((λ h. h), (λ h. h))
some_scaled each (Some m) = ((λ h. refl), (λ h. refl))

-- there is an answer exactly where each index is inside
pub answer_inside : (each : ℕ) (rs : List Range) (is : List ℤ) (answer : Option ℕ)
    → length is ≤ length rs → scaled each (first_element rs is) ≡ answer
    → IsSome answer ↔ AllZip IsIndex (take (length is) rs) is
answer_inside each rs is answer h e =
    let one = some_scaled each (first_element rs is) in
    let two = first_element-some rs is h in
    ((λ s. two.0 (one.0 (subst IsSome (sym e) s))), (λ w. subst IsSome e (one.1 (two.1 w))))

unscaled : (each k : ℕ) (o : Option ℕ) → scaled each o ≡ Some k
    → (m : ℕ) × (o ≡ Some m) × (m * each ≡ k)
unscaled each k None h = cc
unscaled each k (Some m) h = (m, refl, cc)

same_factor : (each m n k : ℕ) → 1 ≤ each → m * each ≡ k → n * each ≡ k → m ≡ n
same_factor each m n k h p q = eq_of_mul-eq-mul_right each (omega arith) m n (p ∙ sym q)

-- two lists of as many indices that name one cell are the same
pub answer_alone : (each : ℕ) (rs : List Range) (is js : List ℤ) (k : ℕ) → 1 ≤ each
    → length js ≡ length is → scaled each (first_element rs is) ≡ Some k
    → scaled each (first_element rs js) ≡ Some k → js ≡ is
answer_alone each rs is js k h long p q =
    let a = unscaled each k (first_element rs is) p in
    let b = unscaled each k (first_element rs js) q in
    let e : b.0 ≡ a.0 = same_factor each b.0 a.0 k h b.2 a.2 in
    first_element-alone rs is js a.0 long a.1 (b.1 ∙ ap Some e)
