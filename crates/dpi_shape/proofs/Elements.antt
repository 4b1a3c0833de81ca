-- How many elements there are: the product of the sizes.
use Rattle.std.proofs.Common.{◌≡◌, ℕ, zero, suc, ◌+◌, ◌*◌, ◌<◌, ◌≤◌, ℤ, pos, ◌+ℤ◌, List, [], ◌∷◌}
use Rattle.std.proofs.Common.{map, length, get_or, drop, refl, ap, sym, ◌∙◌, arith, length-append}
use Rattle.std.proofs.Common.{add-one, mul_assoc}
use Rattle.std.proofs.Math.Seq.{drop-cons}
use Rattle.std.proofs.Math.ListN.{drop_of_length-le}
use Rattle.std.proofs.lemmas.List.{length-map}
use Rattle.std.specs.List.{flat_map}
use Rattle.dpi_shape.specs.declared.range.Range.{Range}
use Rattle.dpi_shape.specs.Range.{size}
use Rattle.dpi_shape.specs.Dims.{rising, index_lists, elements}

-- the list with this index in front of each
abbrev pub block : List (List ℤ) → ℤ → List (List ℤ)
block rest i = map (λ is. i ∷ is) rest

pub length-rising : (i : ℤ) (n : ℕ) → length (rising i n) ≡ n
unfolding rising
length-rising i zero = refl
length-rising i (suc n) = ap suc (length-rising (i +ℤ pos 1) n)

pub length-blocks : (rest : List (List ℤ)) (xs : List ℤ)
    → length (flat_map (block rest) xs) ≡ length xs * length rest
length-blocks rest [] = grind arith
length-blocks rest (x ∷ xs) = grind (arith, length-append, length-map, length-blocks rest xs)

pub elements-cons : (r : Range) (rs : List Range) → elements (r ∷ rs) ≡ size r * elements rs
unfolding index_lists
elements-cons r rs =
    length-blocks (index_lists rs) _ ∙ ap (λ n. n * elements rs) (length-rising _ _)

pub elements-none : elements [] ≡ 1
unfolding index_lists
elements-none = refl

pub positive_product : (a b : ℕ) → 1 ≤ a → 1 ≤ b → 1 ≤ a * b
positive_product a b p q = grind arith

pub elements-some : (rs : List Range) → 1 ≤ elements rs
elements-some [] = rw elements-none (omega arith)
elements-some (r ∷ rs) = rw elements-cons (positive_product _ _ (omega arith) (elements-some rs))

pub elements-drop : (rs : List Range) (k : ℕ) (d : Range) → k < length rs
    → elements (drop k rs) ≡ size (get_or rs k d) * elements (drop (k + 1) rs)
elements-drop rs k d h =
    ap elements (drop-cons rs k d h) ∙ elements-cons (get_or rs k d) (drop (suc k) rs)
    ∙ ap (λ j. size (get_or rs k d) * elements (drop j rs)) (sym (add-one k))

-- so many cells for the ranges that were passed, and the factor of the others
pub record Counts (cells each : ℕ) (rs : List Range) (k : ℕ) : Type 0 where
  pub is : cells * elements (drop k rs) ≡ elements rs * each

pub counts-none : (each : ℕ) (rs : List Range) → Counts each each rs 0
counts-none each rs = record { is = grind arith }

pub counts-more : (cells each : ℕ) (rs : List Range) (k n : ℕ) (d : Range) → k < length rs
    → n ≡ size (get_or rs k d) → Counts cells each rs k → Counts (cells * n) each rs (k + 1)
counts-more cells each rs k n d h e c =
    let step : elements (drop k rs) ≡ n * elements (drop (k + 1) rs) = elements-drop rs k d h
    ∙ ap (λ m. m * elements (drop (k + 1) rs)) (sym e) in
    record { is = mul_assoc cells n _ ∙ ap (λ m. cells * m) (sym step) ∙ c.is }

pub counts-all : (cells each : ℕ) (rs : List Range) (k : ℕ) → length rs ≤ k → Counts cells each rs k
    → cells ≡ elements rs * each
counts-all cells each rs k h c =
    let all : elements (drop k rs) ≡ 1 = ap elements (drop_of_length-le rs h) ∙ elements-none in
    let one : cells * 1 ≡ cells = omega arith in
    sym one ∙ ap (λ n. cells * n) (sym all) ∙ c.is

pub least_factor : (a b : ℕ) → 1 ≤ b → a ≤ a * b
least_factor a b h = grind arith

-- past the most already
pub counts-past : (cells each most : ℕ) (rs : List Range) (k : ℕ) → Counts cells each rs k
    → most < cells → most < elements rs * each
counts-past cells each most rs k c h =
    omega (arith, least_factor cells (elements (drop k rs)) (elements-some (drop k rs)), c.is)
