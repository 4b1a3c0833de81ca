-- A limit is passed at some dimension exactly where all dimensions together are past it.
use Rattle.std.proofs.Common.{◌≡◌, ℕ, suc, ◌-◌, ◌*◌, ◌<◌, ◌≤◌, List, [], ◌∷◌, length, refl, sym, ap, ◌∙◌, arith, Bool, true, false, Option, Some, None, if◌then◌else◌}
use Rattle.std.specs.Prelude.{◌&&◌, nat_le, nat_lt}
use Rattle.std.proofs.lemmas.Option.{same_Some}
use Rattle.std.proofs.lemmas.Bool.{le-leb, lt-leb, leb-true, leb-false, ltb-true, ltb-false}
use Rattle.dpi_rules.specs.Least.{is_clean}
use Rattle.dpi_shape.specs.declared.range.Range.{Range}
use Rattle.dpi_shape.specs.declared.shape.TheConstants.{MOST_CELLS}
use Rattle.dpi_shape.specs.Range.{size}
use Rattle.dpi_shape.specs.Dims.{elements}
use Rattle.dpi_shape.proofs.Elements.{elements-cons, elements-none, elements-some, least_factor}
use Rattle.sv_tree.specs.declared.types.Dimension.{Dimension}
use Rattle.sv_shapes.proofs.Parts.{both}
use Rattle.sv_shapes.proofs.Many.{none_some}
use Rattle.sv_shapes.specs.Dimensions.{bracket, dimension_range, joined_range, ranges_of, limit_at, limit_token, limit_violations}

-- so many dimensions at most, and so many cells
abbrev pub has_room : ℕ → ℕ → List Range → Bool
has_room room cells rs = nat_le (length rs) room && nat_le (elements rs * cells) MOST_CELLS

-- of an element that is itself within the limit
pub room_none : (room cells : ℕ) → cells ≤ MOST_CELLS → true ≡ has_room room cells []
room_none room cells h =
    let one : elements [] * cells ≤ MOST_CELLS = rw elements-none (omega (arith, h)) in
    sym (ap (λ b. b && nat_le (elements [] * cells) MOST_CELLS) (le-leb 0 room (omega arith)) ∙ le-leb _ _ one)

-- the cells of the dimensions behind
product : (r : Range) (rs : List Range) (cells : ℕ) → elements (r ∷ rs) * cells ≡ elements rs * (cells * size r)
product r rs cells = rw elements-cons (grind arith)

one_less_by : (n room : ℕ) (b : Bool) → 0 < room → nat_le n (room - 1) ≡ b → nat_le n (room - 1) ≡ nat_le (suc n) room
one_less_by n room true h e = e ∙ sym (le-leb (suc n) room (omega (arith, leb-true n (room - 1) e)))
one_less_by n room false h e = e ∙ sym (lt-leb (suc n) room (omega (arith, leb-false n (room - 1) e)))

one_less : (n room : ℕ) → 0 < room → nat_le n (room - 1) ≡ nat_le (suc n) room
one_less n room h = one_less_by n room (nat_le n (room - 1)) h refl

and_false : (b : Bool) → (b && false) ≡ false
and_false true = refl
and_false false = refl

past : (r : Range) (rs : List Range) (cells : ℕ) → MOST_CELLS < cells * size r → MOST_CELLS < elements (r ∷ rs) * cells
past r rs cells h =
    rw product (omega (arith, h, least_factor (cells * size r) (elements rs) (elements-some rs)))

-- what is known of the dimensions behind
abbrev pub Behind : ℕ → ℕ → List Range → (ℕ → Option ℕ) → Type 0
Behind file room rs behind =
    (more : ℕ) → more ≤ MOST_CELLS → is_clean (limit_violations file (behind more)) ≡ has_room (room - 1) more rs

limit_by : (file room cells token : ℕ) (r : Range) (rs : List Range) (behind : ℕ → Option ℕ) (a b : Bool)
    → nat_lt 0 room ≡ a → nat_le (cells * size r) MOST_CELLS ≡ b → Behind file room rs behind
    → is_clean (limit_violations file (if a && b then behind (cells * size r) else Some token)) ≡ has_room room cells (r ∷ rs)
limit_by file room cells token r rs behind true true p q h =
    h (cells * size r) (leb-true _ _ q)
    ∙ both _ _ _ _ (one_less (length rs) room (ltb-true 0 room p)) (ap (λ n. nat_le n MOST_CELLS) (sym (product r rs cells)))
limit_by file room cells token r rs behind true false p q h =
    sym (ap (λ b. nat_le (suc (length rs)) room && b) (lt-leb _ _ (past r rs cells (leb-false _ _ q))) ∙ and_false _)
limit_by file room cells token r rs behind false b p q h =
    sym (ap (λ a. a && nat_le (elements (r ∷ rs) * cells) MOST_CELLS) (lt-leb (suc (length rs)) room (omega (arith, ltb-false 0 room p))))

limit_some : (file room cells token : ℕ) (r : Range) (rs : List Range) (behind : ℕ → Option ℕ) → Behind file room rs behind
    → is_clean (limit_violations file (limit_at room cells token (Some r) behind)) ≡ has_room room cells (r ∷ rs)
limit_some file room cells token r rs behind h =
    limit_by file room cells token r rs behind (nat_lt 0 room) (nat_le (cells * size r) MOST_CELLS) refl refl h

limit_more : (file room cells token : ℕ) (o : Option Range) (os : Option (List Range)) (rs : List Range) (behind : ℕ → Option ℕ)
    → joined_range o os ≡ Some rs → ((qs : List Range) → os ≡ Some qs → Behind file room qs behind)
    → is_clean (limit_violations file (limit_at room cells token o behind)) ≡ has_room room cells rs
limit_more file room cells token None os rs behind e h = absurd (none_some rs e)
limit_more file room cells token (Some r) None rs behind e h = absurd (none_some rs e)
limit_more file room cells token (Some r) (Some qs) rs behind e h =
    limit_some file room cells token r qs behind (h qs refl) ∙ ap (has_room room cells) (same_Some (r ∷ qs) rs e)

pub limits_clean : (file room cells : ℕ) (ds : List Dimension) (rs : List Range) → ranges_of ds ≡ Some rs → cells ≤ MOST_CELLS
    → is_clean (limit_violations file (limit_token room cells ds)) ≡ has_room room cells rs
limits_clean file room cells [] rs e h = room_none room cells h ∙ ap (has_room room cells) (same_Some [] rs e)
limits_clean file room cells (d ∷ ds) rs e h =
    limit_more file room cells (bracket d) (dimension_range d) (ranges_of ds) rs (λ more. limit_token (room - 1) more ds) e
    (λ qs is more small. limits_clean file (room - 1) more ds qs is small)
