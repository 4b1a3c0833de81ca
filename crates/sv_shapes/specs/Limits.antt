-- The limits on ranges, bits and cells.
use Rattle.std.specs.Prelude.{◌≡◌, ◌*◌, nat_le, Bool, true, false, ◌&&◌, List, length, refl}
use Rattle.std.proofs.lemmas.Bool.{leb-true, false≢true}
use Rattle.dpi_shape.specs.declared.range.Range.{Range}
use Rattle.dpi_shape.specs.declared.leaf.Leaf.{Leaf}
use Rattle.dpi_shape.specs.declared.shape.TheConstants.{MOST_WIDTH, MOST_CELLS, MOST_DIMS}
use Rattle.dpi_shape.specs.Leaf.{width, element_cells}
use Rattle.dpi_shape.specs.Dims.{elements, IsShape}

-- within the limits on ranges, bits and cells
abbrev pub is_within : Leaf → List Range → Bool
is_within leaf rs =
    nat_le (length rs) MOST_DIMS && (nat_le (width leaf) MOST_WIDTH && nat_le (elements rs * element_cells leaf) MOST_CELLS)

-- two tests hold where both together do
pub both_hold : (a b : Bool) → (a && b) ≡ true → (a ≡ true) × (b ≡ true)
both_hold true b h = (refl, h)
both_hold false b h = absurd (false≢true h)

-- what is within the limits is a shape
pub is_shape : (leaf : Leaf) (rs : List Range) → is_within leaf rs ≡ true → IsShape leaf rs
is_shape leaf rs h =
    let of_dims = both_hold (nat_le (length rs) MOST_DIMS) _ h in
    let of_leaf = both_hold (nat_le (width leaf) MOST_WIDTH) _ of_dims.1 in
    record { few = leb-true _ _ of_dims.0; narrow = leb-true _ _ of_leaf.0; small = leb-true _ _ of_leaf.1 }
