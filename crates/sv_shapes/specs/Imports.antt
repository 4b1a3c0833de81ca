-- The kind of a formal of an import, and what it violates.
use Rattle.std.specs.Prelude.{ℕ, Bool, true, false, ◌&&◌, ◌||◌, if◌then◌else◌, Option, Some, None, option_map, List, [], ◌∷◌, ◌++◌, flat_map}
use Rattle.dpi_rules.specs.declared.violation.Violation.{Violation}
use Rattle.dpi_rules.specs.Order.{violation}
use Rattle.dpi_shape.specs.declared.range.Range.{Range}
use Rattle.dpi_shape.specs.declared.leaf.Leaf.{Leaf}
use Rattle.dpi_shape.specs.declared.shape.Shape.{Shape}
use Rattle.dpi_shape.specs.declared.shape.TheConstants.{MOST_DIMS}
use Rattle.sv_tree.specs.declared.types.DataType.TheVariants as types
use Rattle.sv_tree.specs.declared.types.ImportType.{ImportType}
use Rattle.sv_tree.specs.declared.types.ImportType.TheVariants.{Data, Unsized}
use Rattle.sv_tree.specs.declared.types.ImportDimension.{ImportDimension}
use Rattle.sv_tree.specs.declared.types.ImportDimension.TheVariants as dimensions
use Rattle.sv_shapes.specs.declared.kinds.VarKind.{VarKind}
use Rattle.sv_shapes.specs.declared.kinds.VarKind.TheVariants as kinds
use Rattle.sv_shapes.specs.declared.formals.OpenLeaf.{OpenLeaf}
use Rattle.sv_shapes.specs.declared.formals.OpenLeaf.TheVariants as leaves
use Rattle.sv_shapes.specs.declared.formals.OpenDims.{OpenDims}
use Rattle.sv_shapes.specs.declared.formals.OpenElement.{OpenElement}
use Rattle.sv_shapes.specs.declared.formals.OpenElement.TheVariants.{Packed, Text, Chandle}
use Rattle.sv_shapes.specs.declared.imports.FormalKind.{FormalKind}
use Rattle.sv_shapes.specs.declared.imports.FormalKind.TheVariants as formals
use Rattle.sv_shapes.specs.Dimensions.{dimension_range, joined_range, limit_violations}
use Rattle.sv_shapes.specs.Kinds.{shape_at}
use Rattle.sv_shapes.specs.Formals.{open_cells, formal_element, formal_ranges, open_dims, has_open, formal_limit, formal_type_violations, formal_dimension_violations}

-- the range of a dimension, if it isn't refused or open
abbrev pub sized_range : ImportDimension → Option Range
sized_range (dimensions.Sized d) = dimension_range d
sized_range (dimensions.Unsized k) = None

-- the ranges of all dimensions, if none is refused or open
abbrev pub sized_ranges : List ImportDimension → Option (List Range)
sized_ranges [] = Some []
sized_ranges (d ∷ ds) = joined_range (sized_range d) (sized_ranges ds)

-- the shape of this leaf and these dimensions
abbrev pub sized_shape : Leaf → List ImportDimension → Option Shape
sized_shape leaf ds = shape_at leaf (sized_ranges ds)

-- the kind, if there are no dimensions
abbrev pub single : VarKind → List ImportDimension → Option VarKind
single kind [] = Some kind
single kind (d ∷ ds) = None

-- without open parts: the kind of a variable of this element and these dimensions
abbrev pub sized_kind : Option OpenElement → List ImportDimension → Option VarKind
sized_kind None ds = None
sized_kind (Some (Packed (leaves.Leaf leaf))) ds = option_map kinds.Cells (sized_shape leaf ds)
sized_kind (Some (Packed (leaves.AnyBit signed))) ds = None
sized_kind (Some (Packed (leaves.AnyLogic signed))) ds = None
sized_kind (Some Text) ds = single kinds.Text ds
sized_kind (Some Chandle) ds = single kinds.Chandle ds

-- no open dimension can stand behind `integer`, `string` and `chandle`
abbrev pub is_closed : ImportType → Bool
is_closed (Data (types.Vector k kind sign range)) = false
is_closed (Data (types.Whole k kind sign)) = false
is_closed (Data (types.Integer k)) = true
is_closed (Data (types.String k)) = true
is_closed (Data (types.Chandle k)) = true
is_closed (Unsized k kind sign b) = false

-- the packed part is open
abbrev pub is_unsized : ImportType → Bool
is_unsized (Data type) = false
is_unsized (Unsized k kind sign b) = true

-- an open array, if no limit is passed and no dimension is refused
abbrev pub open_by : OpenLeaf → Option ℕ → Option OpenDims → Option FormalKind
open_by leaf (Some limit) dims = None
open_by leaf None None = None
open_by leaf None (Some dims) = Some (formals.Open leaf dims)

-- the open array of this packed part and these dimensions
abbrev pub open_array : OpenLeaf → List ImportDimension → Option FormalKind
open_array leaf ds = open_by leaf (formal_limit MOST_DIMS (open_cells leaf) ds) (open_dims (formal_ranges ds))

-- the open array of such an element
abbrev pub open_element : Option OpenElement → List ImportDimension → Option FormalKind
open_element None ds = None
open_element (Some (Packed leaf)) ds = open_array leaf ds
open_element (Some Text) ds = None
open_element (Some Chandle) ds = None

-- with an open part
abbrev pub open_kind : ImportType → List ImportDimension → Option FormalKind
open_kind type ds = if is_closed type then None else open_element (formal_element type) ds

-- the kind of a formal of an import with this type and these dimensions, if nothing in them is refused
abbrev pub formal_kind : ImportType → List ImportDimension → Option FormalKind
formal_kind type ds =
    if is_unsized type || has_open ds
    then open_kind type ds
    else option_map formals.Sized (sized_kind (formal_element type) ds)

-- the violation, if the rule is broken
abbrev pub only_if : Bool → Violation → List Violation
only_if true v = v ∷ []
only_if false v = []

-- an array of strings or chandles
abbrev pub is_text_array : ImportType → List ImportDimension → Bool
is_text_array type [] = false
is_text_array (Data (types.Vector k kind sign range)) (d ∷ ds) = false
is_text_array (Data (types.Whole k kind sign)) (d ∷ ds) = false
is_text_array (Data (types.Integer k)) (d ∷ ds) = false
is_text_array (Data (types.String k)) (d ∷ ds) = true
is_text_array (Data (types.Chandle k)) (d ∷ ds) = true
is_text_array (Unsized k kind sign b) (d ∷ ds) = false

-- the rules at the name: 9 on arrays of strings and chandles, 11 on open dimensions of a type that has none
abbrev pub formal_name_violations : ℕ → ℕ → ImportType → List ImportDimension → List Violation
formal_name_violations file name type ds =
    only_if (is_text_array type ds) (violation file name 9) ++ only_if (is_closed type && has_open ds) (violation file name 11)

-- a limit on dimensions or cells that is passed, where an element has cells
abbrev pub formal_cells_violations : ℕ → Option OpenElement → List ImportDimension → List Violation
formal_cells_violations file None ds = []
formal_cells_violations file (Some (Packed leaf)) ds = limit_violations file (formal_limit MOST_DIMS (open_cells leaf) ds)
formal_cells_violations file (Some Text) ds = []
formal_cells_violations file (Some Chandle) ds = []

-- what the type and the dimensions of a formal, whose name is this token, violate
abbrev pub formal_violations : ℕ → ℕ → ImportType → List ImportDimension → List Violation
formal_violations file name type ds =
    formal_type_violations file type
    ++ formal_name_violations file name type ds
    ++ flat_map (formal_dimension_violations file) ds
    ++ formal_cells_violations file (formal_element type) ds
