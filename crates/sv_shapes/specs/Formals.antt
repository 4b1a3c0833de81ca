-- Formals of imports: their elements and dimensions, of which each may be open.
use Rattle.std.specs.Prelude.{ℕ, ◌-◌, nat_lt, Bool, true, false, ◌||◌, if◌then◌else◌, Option, Some, None, option_map, List, [], ◌∷◌}
use Rattle.dpi_rules.specs.declared.violation.Violation.{Violation}
use Rattle.dpi_shape.specs.declared.range.Range.{Range}
use Rattle.dpi_shape.specs.Leaf.{element_cells}
use Rattle.sv_tree.specs.declared.types.ImportType.{ImportType}
use Rattle.sv_tree.specs.declared.types.ImportType.TheVariants.{Data, Unsized}
use Rattle.sv_tree.specs.declared.types.ImportDimension.{ImportDimension}
use Rattle.sv_tree.specs.declared.types.ImportDimension.TheVariants as dimensions
use Rattle.sv_tree.specs.declared.kinds.VectorKind.{VectorKind}
use Rattle.sv_tree.specs.declared.kinds.VectorKind.TheVariants as vectors
use Rattle.sv_shapes.specs.declared.elements.Element.{Element}
use Rattle.sv_shapes.specs.declared.elements.Element.TheVariants as elements
use Rattle.sv_shapes.specs.declared.formals.OpenLeaf.{OpenLeaf}
use Rattle.sv_shapes.specs.declared.formals.OpenLeaf.TheVariants as leaves
use Rattle.sv_shapes.specs.declared.formals.OpenDims.{OpenDims}
use Rattle.sv_shapes.specs.declared.formals.OpenDims.TheVariants.{Zero, One, Two, Three}
use Rattle.sv_shapes.specs.declared.formals.OpenElement.{OpenElement}
use Rattle.sv_shapes.specs.declared.formals.OpenElement.TheVariants.{Packed, Text, Chandle}
use Rattle.sv_shapes.specs.Elements.{is_signed, element_of, type_violations}
use Rattle.sv_shapes.specs.Dimensions.{dimension_range, bracket, dimension_violations, limit_at}

-- the ranges of the dimensions, the first one first; an open one has none
abbrev pub open_ranges_of : OpenDims → List (Option Range)
open_ranges_of Zero = []
open_ranges_of (One rs) = rs
open_ranges_of (Two rs) = rs
open_ranges_of (Three rs) = rs

-- the cells of one element; an open packed part counts as one
abbrev pub open_cells : OpenLeaf → ℕ
open_cells (leaves.Leaf leaf) = element_cells leaf
open_cells (leaves.AnyBit signed) = 1
open_cells (leaves.AnyLogic signed) = 1

-- the open packed part of this kind
abbrev pub any : VectorKind → Bool → OpenLeaf
any vectors.Bit signed = leaves.AnyBit signed
any vectors.Logic signed = leaves.AnyLogic signed
any vectors.Reg signed = leaves.AnyLogic signed

-- an element that isn't open
abbrev pub opened : Element → OpenElement
opened (elements.Packed leaf) = Packed (leaves.Leaf leaf)
opened elements.Text = Text
opened elements.Chandle = Chandle

-- what one element of a formal of this type is, if nothing in the type is refused
abbrev pub formal_element : ImportType → Option OpenElement
formal_element (Data type) = option_map opened (element_of type)
formal_element (Unsized k kind sign b) = Some (Packed (any kind (is_signed false sign)))

-- the range of a dimension, if it isn't refused; an open one has none
abbrev pub formal_range : ImportDimension → Option (Option Range)
formal_range (dimensions.Sized d) = option_map Some (dimension_range d)
formal_range (dimensions.Unsized k) = Some None

-- one dimension more
abbrev pub joined_open : Option (Option Range) → Option (List (Option Range)) → Option (List (Option Range))
joined_open None ranges = None
joined_open (Some r) None = None
joined_open (Some r) (Some rs) = Some (r ∷ rs)

-- the ranges of all dimensions, if none is refused
abbrev pub formal_ranges : List ImportDimension → Option (List (Option Range))
formal_ranges [] = Some []
formal_ranges (d ∷ ds) = joined_open (formal_range d) (formal_ranges ds)

-- the form that keeps these ranges, if they are at most three
abbrev pub open_dims : Option (List (Option Range)) → Option OpenDims
open_dims None = None
open_dims (Some []) = Some Zero
open_dims (Some (a ∷ [])) = Some (One (a ∷ []))
open_dims (Some (a ∷ b ∷ [])) = Some (Two (a ∷ b ∷ []))
open_dims (Some (a ∷ b ∷ c ∷ [])) = Some (Three (a ∷ b ∷ c ∷ []))
open_dims (Some (a ∷ b ∷ c ∷ d ∷ more)) = None

abbrev pub is_open : ImportDimension → Bool
is_open (dimensions.Sized d) = false
is_open (dimensions.Unsized k) = true

-- whether one of the dimensions is open
abbrev pub has_open : List ImportDimension → Bool
has_open [] = false
has_open (d ∷ ds) = is_open d || has_open ds

-- at an open dimension: its `[` where there is no room for it, else what the ones behind it come to
abbrev pub open_at : ℕ → ℕ → Option ℕ → Option ℕ
open_at room token behind = if nat_lt 0 room then behind else Some token

-- The `[` of the first dimension with which a limit is passed: there is room for so many more dimensions, and one element of
-- these dimensions has so many cells. An open dimension has no cells of its own.
abbrev pub formal_limit : ℕ → ℕ → List ImportDimension → Option ℕ
formal_limit room cells [] = None
formal_limit room cells (dimensions.Sized d ∷ ds) =
    limit_at room cells (bracket d) (dimension_range d) (λ more. formal_limit (room - 1) more ds)
formal_limit room cells (dimensions.Unsized token ∷ ds) = open_at room token (formal_limit (room - 1) cells ds)

-- what the type of a formal breaks
abbrev pub formal_type_violations : ℕ → ImportType → List Violation
formal_type_violations file (Data type) = type_violations file type
formal_type_violations file (Unsized k kind sign b) = []

-- what a dimension of a formal breaks by itself
abbrev pub formal_dimension_violations : ℕ → ImportDimension → List Violation
formal_dimension_violations file (dimensions.Sized d) = dimension_violations file d
formal_dimension_violations file (dimensions.Unsized k) = []
