-- The kind of a declared name, and what its declaration violates.
use Rattle.std.specs.Prelude.{◌≡◌, ℕ, Bool, true, false, if◌then◌else◌, ◌↔◌, Option, Some, None, option_map, option_and_then, IsSome, List, [], ◌∷◌, ◌++◌, flat_map, refl}
use Rattle.dpi_rules.specs.declared.violation.Violation.{Violation}
use Rattle.dpi_rules.specs.Order.{violation}
use Rattle.dpi_shape.specs.declared.range.Range.{Range}
use Rattle.dpi_shape.specs.declared.leaf.Leaf.{Leaf}
use Rattle.dpi_shape.specs.declared.dims.Dims.{Dims}
use Rattle.dpi_shape.specs.declared.shape.Shape.{Shape}
use Rattle.dpi_shape.specs.declared.shape.TheConstants.{MOST_DIMS}
use Rattle.dpi_shape.specs.Leaf.{element_cells}
use Rattle.dpi_shape.specs.Dims.{dims_by, ranges_of as dims_in}
use Rattle.dpi_shape.specs.Shape.{leaf_of, dims_of}
use Rattle.sv_tree.specs.declared.types.DataType.{DataType}
use Rattle.sv_tree.specs.declared.types.Dimension.{Dimension}
use Rattle.sv_shapes.specs.declared.elements.Element.{Element}
use Rattle.sv_shapes.specs.declared.elements.Element.TheVariants as parts
use Rattle.sv_shapes.specs.declared.kinds.VarKind.{VarKind}
use Rattle.sv_shapes.specs.declared.kinds.VarKind.TheVariants as kinds
use Rattle.sv_shapes.specs.Limits.{is_within, is_shape}
use Rattle.sv_shapes.specs.Elements.{element_of, type_violations}
use Rattle.sv_shapes.specs.Dimensions.{ranges_of, dimension_violations, limit_token, limit_violations}

-- a kind, with a shape as its leaf and its ranges
pub data Kind : Type 0 where
  cells : Leaf → List Range → Kind
  text : Kind
  chandle : Kind

-- what a shape tells
abbrev pub shape_told : Shape → Kind
shape_told s = cells (leaf_of s) (dims_of s)

-- what the code's kind tells
abbrev pub kind_told : VarKind → Kind
kind_told (kinds.Cells shape) = shape_told shape
kind_told kinds.Text = text
kind_told kinds.Chandle = chandle

-- a leaf with ranges in that form, where the answer of the test on limits is given
abbrev pub shape_if : (leaf : Leaf) (d : Dims) (b : Bool) → is_within leaf (dims_in d) ≡ b → Option Shape
shape_if leaf d true h = Some (record { leaf = leaf; dims = d; sized = is_shape leaf (dims_in d) h })
shape_if leaf d false h = None

-- the same, if it is within the limits
abbrev pub shape_in : Leaf → Dims → Option Shape
shape_in leaf d = shape_if leaf d (is_within leaf (dims_in d)) refl

-- the shape of this leaf and these ranges, if they are within the limits
abbrev pub shape_kept : Leaf → List Range → Option Shape
shape_kept leaf rs = option_and_then (shape_in leaf) (dims_by rs)

-- cells of this leaf and these ranges, within the limits
abbrev pub within : Leaf → List Range → Option Kind
within leaf rs = if is_within leaf rs then Some (cells leaf rs) else None

-- cells of this leaf, if each dimension has a range
abbrev pub shape_by : Leaf → Option (List Range) → Option Kind
shape_by leaf None = None
shape_by leaf (Some rs) = within leaf rs

-- the kind, if there are no dimensions
abbrev pub alone : {K D : Type 0} → K → List D → Option K
alone kind [] = Some kind
alone kind (d ∷ ds) = None

-- the dimensions of such an element. There are none of a string and of a chandle
abbrev pub kind_by : Option Element → List Dimension → Option Kind
kind_by None ds = None
kind_by (Some (parts.Packed leaf)) ds = shape_by leaf (ranges_of ds)
kind_by (Some parts.Text) ds = alone text ds
kind_by (Some parts.Chandle) ds = alone chandle ds

-- the kind of a name that is declared with this type and these dimensions, if nothing in them is refused
abbrev pub kind_of : DataType → List Dimension → Option Kind
kind_of type ds = kind_by (element_of type) ds

-- the shape of this leaf and these ranges, if there are any
abbrev pub shape_at : Leaf → Option (List Range) → Option Shape
shape_at leaf None = None
shape_at leaf (Some rs) = shape_kept leaf rs

-- the same kind as the code keeps it
abbrev pub var_kind_by : Option Element → List Dimension → Option VarKind
var_kind_by None ds = None
var_kind_by (Some (parts.Packed leaf)) ds = option_map kinds.Cells (shape_at leaf (ranges_of ds))
var_kind_by (Some parts.Text) ds = alone kinds.Text ds
var_kind_by (Some parts.Chandle) ds = alone kinds.Chandle ds

-- the kind of a variable of this type and these dimensions, if nothing in them is refused
abbrev pub var_kind : DataType → List Dimension → Option VarKind
var_kind type ds = var_kind_by (element_of type) ds

-- the rule on arrays of strings and chandles is broken at the name, where there are dimensions
abbrev pub array_broken : {D : Type 0} → ℕ → ℕ → List D → List Violation
array_broken file name [] = []
array_broken file name (d ∷ ds) = violation file name 9 ∷ []

-- an array of strings or chandles
abbrev pub array_violations : ℕ → ℕ → Option Element → List Dimension → List Violation
array_violations file name None ds = []
array_violations file name (Some (parts.Packed leaf)) ds = []
array_violations file name (Some parts.Text) ds = array_broken file name ds
array_violations file name (Some parts.Chandle) ds = array_broken file name ds

-- a limit on dimensions or cells that is passed, where an element has cells
abbrev pub cells_violations : ℕ → Option Element → List Dimension → List Violation
cells_violations file None ds = []
cells_violations file (Some (parts.Packed leaf)) ds = limit_violations file (limit_token MOST_DIMS (element_cells leaf) ds)
cells_violations file (Some parts.Text) ds = []
cells_violations file (Some parts.Chandle) ds = []

-- what the declaration of a name, at this token, violates: its type, an array of no cells, each dimension, and the limits
abbrev pub kind_violations : ℕ → ℕ → DataType → List Dimension → List Violation
kind_violations file name type ds =
    type_violations file type
    ++ array_violations file name (element_of type) ds
    ++ flat_map (dimension_violations file) ds
    ++ cells_violations file (element_of type) ds

-- there is a kind exactly where nothing is violated
abbrev pub KindsAreClean : Type 0
KindsAreClean =
    (file name : ℕ) (type : DataType) (ds : List Dimension)
    → IsSome (kind_of type ds) ↔ (kind_violations file name type ds ≡ [])
