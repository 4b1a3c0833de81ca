-- What one element of a variable is, by its type.
use Rattle.std.specs.Prelude.{ℕ, nat_le, Bool, true, false, if◌then◌else◌, pos, Option, Some, None, option_map, List, [], ◌∷◌, ◌++◌}
use Rattle.dpi_rules.specs.declared.violation.Violation.{Violation}
use Rattle.dpi_shape.specs.declared.range.Range.{Range}
use Rattle.dpi_shape.specs.declared.leaf.Leaf.{Leaf}
use Rattle.dpi_shape.specs.declared.leaf.Leaf.TheVariants as leaves
use Rattle.dpi_shape.specs.declared.shape.TheConstants.{MOST_WIDTH}
use Rattle.dpi_shape.specs.Range.{size}
use Rattle.sv_tree.specs.declared.types.Range.{Range as PackedRange}
use Rattle.sv_tree.specs.declared.types.Sign.{Sign}
use Rattle.sv_tree.specs.declared.types.DataType.{DataType}
use Rattle.sv_tree.specs.declared.types.DataType.TheVariants as types
use Rattle.sv_tree.specs.declared.kinds.VectorKind.{VectorKind}
use Rattle.sv_tree.specs.declared.kinds.VectorKind.TheVariants as vectors
use Rattle.sv_tree.specs.declared.kinds.WholeKind.{WholeKind}
use Rattle.sv_tree.specs.declared.kinds.WholeKind.TheVariants as wholes
use Rattle.sv_tree.specs.declared.kinds.Signing.{Signing}
use Rattle.sv_tree.specs.declared.kinds.Signing.TheVariants as signings
use Rattle.sv_shapes.specs.declared.elements.Element.{Element}
use Rattle.sv_shapes.specs.declared.elements.Element.TheVariants as elements
use Rattle.sv_shapes.specs.Bounds.{shape_broken, range_between, bounds_violations}

abbrev pub signed_by : Signing → Bool
signed_by signings.Signed = true
signed_by signings.Unsigned = false

-- the sign that is written, else the usual one of the type
abbrev pub is_signed : Bool → Option Sign → Bool
is_signed usual None = usual
is_signed usual (Some sign) = signed_by sign.signing

-- one bit
abbrev pub scalar : VectorKind → Bool → Leaf
scalar vectors.Bit signed = leaves.Bit signed
scalar vectors.Logic signed = leaves.Logic signed
scalar vectors.Reg signed = leaves.Logic signed

-- the bits of a range
abbrev pub vector : VectorKind → Bool → Range → Leaf
vector vectors.Bit signed range = leaves.BitVec range signed
vector vectors.Logic signed range = leaves.LogicVec range signed
vector vectors.Reg signed range = leaves.LogicVec range signed

-- a type of a fixed width
abbrev pub whole : WholeKind → Bool → Leaf
whole wholes.Byte signed = leaves.Byte signed
whole wholes.ShortInt signed = leaves.Short signed
whole wholes.Int signed = leaves.Int signed
whole wholes.LongInt signed = leaves.Long signed

-- `integer`: 32 signed bits of four states
abbrev pub integer : Leaf
integer = leaves.LogicVec (record { left = pos 31; right = pos 0 }) true

-- a range of at most so many bits as an element may have
abbrev pub narrow : Option Range → Option Range
narrow None = None
narrow (Some r) = if nat_le (size r) MOST_WIDTH then Some r else None

-- the range of a vector
abbrev pub packed_range : PackedRange → Option Range
packed_range r = narrow (range_between r.left r.right)

-- `bit`, `logic` or `reg`, with a range or without
abbrev pub packed : VectorKind → Bool → Option PackedRange → Option Leaf
packed kind signed None = Some (scalar kind signed)
packed kind signed (Some range) = option_map (vector kind signed) (packed_range range)

-- what one element is, if nothing in its type is refused
abbrev pub element_of : DataType → Option Element
element_of (types.Vector k kind sign range) = option_map elements.Packed (packed kind (is_signed false sign) range)
element_of (types.Whole k kind sign) = Some (elements.Packed (whole kind (is_signed true sign)))
element_of (types.Integer k) = Some (elements.Packed integer)
element_of (types.String k) = Some elements.Text
element_of (types.Chandle k) = Some elements.Chandle

-- a vector of too many bits breaks the rule at its `[`
abbrev pub width_violations : ℕ → ℕ → Option Range → List Violation
width_violations file token None = []
width_violations file token (Some r) = if nat_le (size r) MOST_WIDTH then [] else shape_broken file token ∷ []

-- what the range of a vector breaks
abbrev pub range_violations : ℕ → PackedRange → List Violation
range_violations file r = bounds_violations file r.left r.right ++ width_violations file r.token (range_between r.left r.right)

-- what the range of a vector breaks, if it has one
abbrev pub packed_violations : ℕ → Option PackedRange → List Violation
packed_violations file None = []
packed_violations file (Some range) = range_violations file range

-- what a type breaks
abbrev pub type_violations : ℕ → DataType → List Violation
type_violations file (types.Vector k kind sign range) = packed_violations file range
type_violations file (types.Whole k kind sign) = []
type_violations file (types.Integer k) = []
type_violations file (types.String k) = []
type_violations file (types.Chandle k) = []
