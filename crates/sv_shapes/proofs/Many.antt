-- More than three dimensions have no shape.
use Rattle.std.proofs.Common.{◌≡◌, ℕ, suc, ◌<◌, List, [], ◌∷◌, length, refl, sym, ap, ◌∙◌, arith, Bool, Option, Some, None, if◌then◌else◌}
use Rattle.std.specs.Prelude.{option_and_then, ◌*◌, ◌&&◌, nat_le}
use Rattle.std.proofs.lemmas.Bool.{lt-leb}
use Rattle.std.proofs.lemmas.Option.{same_Some}
use Rattle.dpi_shape.specs.declared.range.Range.{Range}
use Rattle.dpi_shape.specs.declared.leaf.Leaf.{Leaf}
use Rattle.dpi_shape.specs.declared.shape.TheConstants.{MOST_WIDTH, MOST_CELLS, MOST_DIMS}
use Rattle.dpi_shape.specs.Leaf.{width, element_cells}
use Rattle.dpi_shape.specs.Dims.{elements, dims_by}
use Rattle.sv_tree.specs.declared.types.Dimension.{Dimension}
use Rattle.sv_shapes.specs.Dimensions.{dimension_range, joined_range, ranges_of}
use Rattle.sv_shapes.specs.Kinds.{Kind, cells, within, shape_by, shape_in, shape_at}

pub none_some : {T : Type 0} (x : T) → None ≡ Some x → ⊥
none_some x h = cc

pub length-joined : (o : Option Range) (os : Option (List Range)) (n : ℕ) (rs : List Range) → joined_range o os ≡ Some rs
    → ((qs : List Range) → os ≡ Some qs → length qs ≡ n) → length rs ≡ suc n
length-joined None os n rs e h = absurd (none_some rs e)
length-joined (Some r) None n rs e h = absurd (none_some rs e)
length-joined (Some r) (Some qs) n rs e h = ap length (sym (same_Some (r ∷ qs) rs e)) ∙ ap suc (h qs refl)

length-ranges : (ds : List Dimension) (rs : List Range) → ranges_of ds ≡ Some rs → length rs ≡ length ds
length-ranges [] rs e = ap length (sym (same_Some [] rs e))
length-ranges (d ∷ ds) rs e = length-joined (dimension_range d) (ranges_of ds) (length ds) rs e (λ qs is. length-ranges ds qs is)

within_few : (leaf : Leaf) (rs : List Range) → 3 < length rs → None ≡ within leaf rs
within_few leaf rs h =
    let others : Bool = nat_le (width leaf) MOST_WIDTH && nat_le (elements rs * element_cells leaf) MOST_CELLS in
    let kind : Kind = cells leaf rs in
    sym (ap (λ b. if b && others then Some kind else None) (lt-leb (length rs) MOST_DIMS h))

pub too_many : (leaf : Leaf) (ds : List Dimension) (o : Option (List Range)) → ranges_of ds ≡ o → 3 < length ds → None ≡ shape_by leaf o
too_many leaf ds None e h = refl
too_many leaf ds (Some rs) e h = within_few leaf rs (omega (arith, h, length-ranges ds rs e))

pub no_form : (rs : List Range) → 3 < length rs → dims_by rs ≡ None
no_form [] h = absurd (omega (arith, h))
no_form (a ∷ []) h = absurd (omega (arith, h))
no_form (a ∷ b ∷ []) h = absurd (omega (arith, h))
no_form (a ∷ b ∷ c ∷ []) h = absurd (omega (arith, h))
no_form (a ∷ b ∷ c ∷ d ∷ more) h = refl

pub too_many_kept : (leaf : Leaf) (ds : List Dimension) (o : Option (List Range)) → ranges_of ds ≡ o → 3 < length ds → None ≡ shape_at leaf o
too_many_kept leaf ds None e h = refl
too_many_kept leaf ds (Some rs) e h =
    sym (ap (option_and_then (shape_in leaf)) (no_form rs (omega (arith, h, length-ranges ds rs e))))
