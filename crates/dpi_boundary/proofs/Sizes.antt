-- At most three dimensions: sizes compared one by one.
use Rattle.std.proofs.Common.{arith, ◌≡◌, ◌≤◌, refl, sym, ap, Bool, true, false, Some, List, [], ◌∷◌, length}
use Rattle.std.specs.Prelude.{◌&&◌, map, slice_get}
use Rattle.dpi_shape.specs.declared.range.Range.{Range}
use Rattle.dpi_boundary.specs.Kinds.{same_size, same_open_sizes}

and_true : (b : Bool) → (b && true) ≡ b
and_true true = refl
and_true false = refl

-- of two lists of at most three ranges the first, the second and the third pair
pub same_three : (rs qs : List Range) → length rs ≤ 3 → length qs ≤ 3 →
    (same_size (slice_get rs 0) (slice_get qs 0) && (same_size (slice_get rs 1) (slice_get qs 1) && same_size (slice_get rs 2) (slice_get qs 2)))
    ≡ same_open_sizes (map Some rs) (map Some qs)
same_three [] [] h k = refl
same_three [] (q ∷ qs) h k = refl
same_three (r ∷ rs) [] h k = refl
same_three (r ∷ []) (q ∷ []) h k = refl
same_three (r ∷ []) (q ∷ q2 ∷ qs) h k = refl
same_three (r ∷ r2 ∷ rs) (q ∷ []) h k = refl
same_three (r ∷ r2 ∷ []) (q ∷ q2 ∷ []) h k = refl
same_three (r ∷ r2 ∷ []) (q ∷ q2 ∷ q3 ∷ qs) h k = refl
same_three (r ∷ r2 ∷ r3 ∷ rs) (q ∷ q2 ∷ []) h k = refl
same_three (r ∷ r2 ∷ r3 ∷ []) (q ∷ q2 ∷ q3 ∷ []) h k = ap (λ b. same_size (Some r) (Some q) && (same_size (Some r2) (Some q2) && b)) (sym (and_true (same_size (Some r3) (Some q3))))
same_three (r ∷ r2 ∷ r3 ∷ r4 ∷ rs) (q ∷ q2 ∷ q3 ∷ qs) h k = absurd (omega arith)
same_three (r ∷ r2 ∷ r3 ∷ []) (q ∷ q2 ∷ q3 ∷ q4 ∷ qs) h k = absurd (omega arith)
