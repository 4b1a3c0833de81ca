-- Types of expressions.
use Rattle.std.specs.Prelude.{ℕ, ◌+◌, nat_lt, Bool, true, false, if◌then◌else◌, Option, length, slice_get}
use Rattle.dpi_shape.specs.declared.range.Range.{Range}
use Rattle.dpi_shape.specs.declared.leaf.Leaf.{Leaf}
use Rattle.dpi_shape.specs.declared.leaf.Leaf.TheVariants as leaves
use Rattle.dpi_shape.specs.declared.shape.Shape.{Shape}
use Rattle.dpi_shape.specs.Leaf.{width, is_four_state}
use Rattle.dpi_shape.specs.Shape.{leaf_of, dims_of}
use Rattle.sv_shapes.specs.declared.kinds.VarKind.{VarKind}
use Rattle.sv_shapes.specs.declared.kinds.VarKind.TheVariants as kinds
use Rattle.sv_typing.specs.declared.types.ExprType.{ExprType}
use Rattle.sv_typing.specs.declared.types.ExprType.TheVariants as types

-- the leaf has values below 0
abbrev pub is_signed : Leaf → Bool
is_signed (leaves.Bit signed) = signed
is_signed (leaves.Logic signed) = signed
is_signed (leaves.Byte signed) = signed
is_signed (leaves.Short signed) = signed
is_signed (leaves.Int signed) = signed
is_signed (leaves.Long signed) = signed
is_signed (leaves.BitVec range signed) = signed
is_signed (leaves.LogicVec range signed) = signed

-- one element of an array, or a variable without unpacked dimensions
abbrev pub element_type : Leaf → ExprType
element_type leaf = types.Bits (width leaf) (is_signed leaf) (is_four_state leaf)

-- so many indices of a variable of this shape leave a dimension
abbrev pub is_array : Shape → ℕ → Bool
is_array shape taken = nat_lt taken (length (dims_of shape))

-- what so many indices of a variable of this shape name: an array of the dimensions that are left, or an element
abbrev pub part_type : Shape → ℕ → ExprType
part_type shape taken = if is_array shape taken then types.Array shape taken else element_type (leaf_of shape)

-- the range of a dimension that so many indices leave, counted from 0
abbrev pub range_left : Shape → ℕ → ℕ → Option Range
range_left shape taken step = slice_get (dims_of shape) (taken + step)

-- a whole variable of this kind
abbrev pub kind_type : VarKind → ExprType
kind_type (kinds.Cells shape) = part_type shape 0
kind_type kinds.Text = types.Text
kind_type kinds.Chandle = types.Chandle

-- packed bits
abbrev pub is_packed : ExprType → Bool
is_packed (types.Bits width signed four) = true
is_packed other = false

-- what can be true or false: packed bits and chandles
abbrev pub is_condition : ExprType → Bool
is_condition (types.Bits width signed four) = true
is_condition types.Chandle = true
is_condition other = false

-- a string
abbrev pub is_text : ExprType → Bool
is_text types.Text = true
is_text other = false

-- a chandle
abbrev pub is_chandle : ExprType → Bool
is_chandle types.Chandle = true
is_chandle other = false

-- packed bits that are signed
abbrev pub is_signed_bits : ExprType → Bool
is_signed_bits (types.Bits width signed four) = signed
is_signed_bits other = false

-- the bits of packed bits; another type has none
abbrev pub width_of : ExprType → ℕ
width_of (types.Bits width signed four) = width
width_of other = 0

-- packed bits, one of which can be x or z
abbrev pub is_four : ExprType → Bool
is_four (types.Bits width signed four) = four
is_four other = false
