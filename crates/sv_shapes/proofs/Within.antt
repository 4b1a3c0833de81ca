-- What the code keeps of a shape is within the limits, and is determined by its leaf and its ranges.
use Rattle.std.proofs.Common.{◌≡◌, ◌*◌, ap, ◌∙◌, true, List}
use Rattle.std.specs.Prelude.{◌&&◌, nat_le}
use Rattle.std.proofs.lemmas.Bool.{le-leb}
use Rattle.dpi_shape.specs.declared.range.Range.{Range}
use Rattle.dpi_shape.specs.declared.leaf.Leaf.{Leaf}
use Rattle.dpi_shape.specs.declared.shape.TheConstants.{MOST_WIDTH, MOST_CELLS}
use Rattle.dpi_shape.specs.Leaf.{width, element_cells}
use Rattle.dpi_shape.specs.Dims.{elements, IsShape}
use Rattle.sv_shapes.specs.Limits.{is_within}

pub shape_within : (leaf : Leaf) (rs : List Range) → IsShape leaf rs → is_within leaf rs ≡ true
shape_within leaf rs h =
    ap (λ b. b && (nat_le (width leaf) MOST_WIDTH && nat_le (elements rs * element_cells leaf) MOST_CELLS)) (le-leb _ _ h.few)
    ∙ ap (λ b. b && nat_le (elements rs * element_cells leaf) MOST_CELLS) (le-leb _ _ h.narrow)
    ∙ le-leb _ _ h.small
