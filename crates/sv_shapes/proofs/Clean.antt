-- There is a kind exactly where nothing is violated.
use Rattle.std.proofs.Common.{◌≡◌, ℕ, ◌≤◌, ◌*◌, ◌↔◌, List, [], ◌∷◌, ◌++◌, length, refl, sym, ap, ◌∙◌, arith, Bool, true, false, Option, Some, None, if◌then◌else◌}
use Rattle.std.specs.Prelude.{◌&&◌, nat_le, flat_map, option_map}
use Rattle.std.specs.Option.{is_some}
use Rattle.std.proofs.lemmas.Bool.{le-leb, leb-true}
use Rattle.dpi_rules.specs.declared.violation.Violation.{Violation}
use Rattle.dpi_rules.specs.Least.{is_clean}
use Rattle.dpi_rules.proofs.Noting.{is_clean-append}
use Rattle.dpi_shape.specs.declared.range.Range.{Range}
use Rattle.dpi_shape.specs.declared.leaf.Leaf.{Leaf}
use Rattle.dpi_shape.specs.declared.leaf.Leaf.TheVariants as leaves
use Rattle.dpi_shape.specs.declared.shape.TheConstants.{MOST_WIDTH, MOST_CELLS, MOST_DIMS}
use Rattle.dpi_shape.specs.Leaf.{width, element_cells}
use Rattle.dpi_shape.specs.Range.{size}
use Rattle.dpi_shape.specs.Dims
use Rattle.sv_tree.specs.declared.types.Range.{Range as PackedRange}
use Rattle.sv_tree.specs.declared.types.DataType.{DataType}
use Rattle.sv_tree.specs.declared.types.DataType.TheVariants as types
use Rattle.sv_tree.specs.declared.types.Dimension.{Dimension}
use Rattle.sv_tree.specs.declared.kinds.VectorKind.{VectorKind}
use Rattle.sv_tree.specs.declared.kinds.VectorKind.TheVariants as vectors
use Rattle.sv_tree.specs.declared.kinds.WholeKind.{WholeKind}
use Rattle.sv_tree.specs.declared.kinds.WholeKind.TheVariants as wholes
use Rattle.sv_shapes.specs.declared.elements.Element.{Element}
use Rattle.sv_shapes.specs.declared.elements.Element.TheVariants as elements
use Rattle.sv_shapes.specs.Bounds.{range_between}
use Rattle.sv_shapes.specs.Elements.{narrow, packed, scalar, vector, whole, integer, is_signed, element_of, type_violations}
use Rattle.sv_shapes.specs.Dimensions.{dimension_violations, ranges_of, limit_token, limit_violations}
use Rattle.sv_shapes.specs.Limits.{is_within}
use Rattle.sv_shapes.specs.Kinds.{Kind, cells, within, shape_by, kind_by, kind_of, array_violations, cells_violations, kind_violations, KindsAreClean}
use Rattle.sv_shapes.proofs.Parts.{both, type_clean, dimensions_clean}
use Rattle.sv_shapes.proofs.Limits.{has_room, limits_clean}

-- ---- widths

-- an element is within the limit on bits
abbrev IsNarrowLeaf : Leaf → Type 0
IsNarrowLeaf leaf = (width leaf ≤ MOST_WIDTH) × (element_cells leaf ≤ MOST_CELLS)

abbrev IsNarrow : Option Element → Type 0
IsNarrow None = Unit {0}
IsNarrow (Some (elements.Packed leaf)) = IsNarrowLeaf leaf
IsNarrow (Some elements.Text) = Unit {0}
IsNarrow (Some elements.Chandle) = Unit {0}

abbrev IsNarrowPacked : Option Leaf → Type 0
IsNarrowPacked None = Unit {0}
IsNarrowPacked (Some leaf) = IsNarrowLeaf leaf

narrow_leaf : (leaf : Leaf) → width leaf ≤ MOST_WIDTH → IsNarrowLeaf leaf
narrow_leaf (leaves.Bit signed) h = (h, omega arith)
narrow_leaf (leaves.Logic signed) h = (h, omega arith)
narrow_leaf (leaves.Byte signed) h = (h, omega arith)
narrow_leaf (leaves.Short signed) h = (h, omega arith)
narrow_leaf (leaves.Int signed) h = (h, omega arith)
narrow_leaf (leaves.Long signed) h = (h, omega arith)
narrow_leaf (leaves.BitVec range signed) h = (h, grind arith)
narrow_leaf (leaves.LogicVec range signed) h = (h, grind arith)

narrow_scalar : (kind : VectorKind) (signed : Bool) → IsNarrowLeaf (scalar kind signed)
narrow_scalar vectors.Bit signed = narrow_leaf (leaves.Bit signed) (omega arith)
narrow_scalar vectors.Logic signed = narrow_leaf (leaves.Logic signed) (omega arith)
narrow_scalar vectors.Reg signed = narrow_leaf (leaves.Logic signed) (omega arith)

narrow_vector : (kind : VectorKind) (signed : Bool) (r : Range) → size r ≤ MOST_WIDTH → IsNarrowLeaf (vector kind signed r)
narrow_vector vectors.Bit signed r h = narrow_leaf (leaves.BitVec r signed) h
narrow_vector vectors.Logic signed r h = narrow_leaf (leaves.LogicVec r signed) h
narrow_vector vectors.Reg signed r h = narrow_leaf (leaves.LogicVec r signed) h

narrow_by : (kind : VectorKind) (signed : Bool) (r : Range) (b : Bool) → nat_le (size r) MOST_WIDTH ≡ b
    → IsNarrowPacked (option_map (vector kind signed) (if b then Some r else None))
narrow_by kind signed r true h = narrow_vector kind signed r (leb-true _ _ h)
narrow_by kind signed r false h = tt

narrow_between : (kind : VectorKind) (signed : Bool) (o : Option Range) → IsNarrowPacked (option_map (vector kind signed) (narrow o))
narrow_between kind signed None = tt
narrow_between kind signed (Some r) = narrow_by kind signed r (nat_le (size r) MOST_WIDTH) refl

narrow_packed : (kind : VectorKind) (signed : Bool) (o : Option PackedRange) → IsNarrowPacked (packed kind signed o)
narrow_packed kind signed None = narrow_scalar kind signed
narrow_packed kind signed (Some r) = narrow_between kind signed (range_between r.left r.right)

narrow_whole : (kind : WholeKind) (signed : Bool) → IsNarrowLeaf (whole kind signed)
narrow_whole wholes.Byte signed = narrow_leaf (leaves.Byte signed) (omega arith)
narrow_whole wholes.ShortInt signed = narrow_leaf (leaves.Short signed) (omega arith)
narrow_whole wholes.Int signed = narrow_leaf (leaves.Int signed) (omega arith)
narrow_whole wholes.LongInt signed = narrow_leaf (leaves.Long signed) (omega arith)

narrow_some : (o : Option Leaf) → IsNarrowPacked o → IsNarrow (option_map elements.Packed o)
narrow_some None h = tt
narrow_some (Some leaf) h = h

narrow_element : (type : DataType) → IsNarrow (element_of type)
narrow_element (types.Vector k kind sign range) = narrow_some (packed kind (is_signed false sign) range) (narrow_packed kind (is_signed false sign) range)
narrow_element (types.Whole k kind sign) = narrow_whole kind (is_signed true sign)
narrow_element (types.Integer k) = narrow_leaf integer (omega arith)
narrow_element (types.String k) = tt
narrow_element (types.Chandle k) = tt

-- ---- kinds

within_some : (b : Bool) (k : Kind) → b ≡ is_some (if b then Some k else None)
within_some true k = refl
within_some false k = refl

within_clean : (leaf : Leaf) (rs : List Range) → width leaf ≤ MOST_WIDTH → has_room MOST_DIMS (element_cells leaf) rs ≡ is_some (within leaf rs)
within_clean leaf rs h =
    ap (λ b. nat_le (length rs) MOST_DIMS && (b && nat_le (Dims.elements rs * element_cells leaf) MOST_CELLS)) (sym (le-leb (width leaf) MOST_WIDTH h))
    ∙ within_some (is_within leaf rs) (cells leaf rs)

cells_clean : (file : ℕ) (leaf : Leaf) (ds : List Dimension) (o : Option (List Range)) → ranges_of ds ≡ o → IsNarrowLeaf leaf
    → (is_some o && is_clean (limit_violations file (limit_token MOST_DIMS (element_cells leaf) ds))) ≡ is_some (shape_by leaf o)
cells_clean file leaf ds None e h = refl
cells_clean file leaf ds (Some rs) e h = limits_clean file MOST_DIMS (element_cells leaf) ds rs e h.1 ∙ within_clean leaf rs h.0

parts_clean : (file name : ℕ) (e : Option Element) (ds : List Dimension) → IsNarrow e
    → (((is_some e && is_clean (array_violations file name e ds)) && is_some (ranges_of ds)) && is_clean (cells_violations file e ds)) ≡ is_some (kind_by e ds)
parts_clean file name None ds h = refl
parts_clean file name (Some (elements.Packed leaf)) ds h = cells_clean file leaf ds (ranges_of ds) refl h
parts_clean file name (Some elements.Text) [] h = refl
parts_clean file name (Some elements.Text) (d ∷ ds) h = refl
parts_clean file name (Some elements.Chandle) [] h = refl
parts_clean file name (Some elements.Chandle) (d ∷ ds) h = refl

pub kind_clean : (file name : ℕ) (type : DataType) (ds : List Dimension) → is_clean (kind_violations file name type ds) ≡ is_some (kind_of type ds)
kind_clean file name type ds =
    let of_type = type_violations file type in
    let of_array = array_violations file name (element_of type) ds in
    let of_each = flat_map (dimension_violations file) ds in
    let of_cells = cells_violations file (element_of type) ds in
    is_clean-append (of_type ++ of_array ++ of_each) of_cells
    ∙ ap (λ b. b && is_clean of_cells)
    (is_clean-append (of_type ++ of_array) of_each
    ∙ both _ _ _ _ (is_clean-append of_type of_array ∙ ap (λ b. b && is_clean of_array) (type_clean file type)) (dimensions_clean file ds))
    ∙ parts_clean file name (element_of type) ds (narrow_element type)

clean_some : (vs : List Violation) (b : Bool) → is_clean vs ≡ b → (b ≡ true) ↔ (vs ≡ [])
clean_some [] b e = ((λ h. refl), (λ h. sym e))
clean_some (v ∷ vs) b e = ((λ h. absurd (cc)), (λ h. absurd (cc)))

pub kinds_are_clean : KindsAreClean
kinds_are_clean file name type ds = clean_some (kind_violations file name type ds) (is_some (kind_of type ds)) (kind_clean file name type ds)
