-- The types at the boundary: a clause for each row.
use Rattle.std.specs.Prelude.{ℕ, Bool, true, false, not, ◌==◌, ◌&&◌, if◌then◌else◌, Option, Some, None, length}
use Rattle.dpi_shape.specs.declared.leaf.Leaf.{Leaf}
use Rattle.dpi_shape.specs.declared.leaf.Leaf.TheVariants as leaves
use Rattle.dpi_shape.specs.declared.shape.Shape.{Shape}
use Rattle.dpi_shape.specs.Shape.{leaf_of, dims_of}
use Rattle.c_base.specs.declared.base.CBase.{CBase}
use Rattle.c_base.specs.declared.base.CBase.TheVariants as c
use Rattle.c_base.specs.declared.ctype.CType.{CType}
use Rattle.c_base.specs.Types.{plain}
use Rattle.sv_shapes.specs.declared.kinds.VarKind.{VarKind}
use Rattle.sv_shapes.specs.declared.kinds.VarKind.TheVariants.{Cells, Text, Chandle}
use Rattle.sv_signatures.specs.declared.results.Returns.{Returns}
use Rattle.sv_signatures.specs.declared.results.Returns.TheVariants.{Void, Value}

-- one cell in C. svBit and svLogic are unsigned char, svBitVecVal is unsigned int
abbrev pub cell : Leaf → CBase
cell (leaves.Byte true) = c.Char
cell (leaves.Byte false) = c.UnsignedChar
cell (leaves.Short true) = c.Short
cell (leaves.Short false) = c.UnsignedShort
cell (leaves.Int true) = c.Int
cell (leaves.Int false) = c.UnsignedInt
cell (leaves.Long true) = c.LongLong
cell (leaves.Long false) = c.UnsignedLongLong
cell (leaves.Bit signed) = c.UnsignedChar
cell (leaves.Logic signed) = c.UnsignedChar
cell (leaves.BitVec range signed) = c.UnsignedInt
cell (leaves.LogicVec range signed) = c.LogicVec

-- a packed range is written
abbrev pub is_vector : Leaf → Bool
is_vector (leaves.BitVec range signed) = true
is_vector (leaves.LogicVec range signed) = true
is_vector other = false

-- one scalar or one whole number
abbrev pub is_value : Shape → Bool
is_value s = length (dims_of s) == 0 && not (is_vector (leaf_of s))

-- so many stars behind a base that is const or isn't
abbrev pub pointer : Bool → CBase → ℕ → CType
pointer constant base stars = record { base = base; base_const = constant; stars = stars; inner_const = false }

-- inputs: numbers by value; vectors and arrays, as const cells; const char *; void *
abbrev pub input_type : VarKind → CType
input_type (Cells s) = if is_value s then plain (cell (leaf_of s)) else pointer true (cell (leaf_of s)) 1
input_type Text = pointer true c.Char 1
input_type Chandle = pointer false c.Void 1

-- outputs and inouts: a pointer to the cells; const char **; void **
abbrev pub output_type : VarKind → CType
output_type (Cells s) = pointer false (cell (leaf_of s)) 1
output_type Text = pointer true c.Char 2
output_type Chandle = pointer false c.Void 2

-- results: numbers; const char *; void *. Vectors and arrays are none
abbrev pub result_type : VarKind → Option CType
result_type (Cells s) = if is_value s then Some (plain (cell (leaf_of s))) else None
result_type Text = Some (pointer true c.Char 1)
result_type Chandle = Some (pointer false c.Void 1)

-- a result that is nothing, a number, a string or a chandle
abbrev pub is_small : Returns → Bool
is_small Void = true
is_small (Value None) = true
is_small (Value (Some (Cells s))) = is_value s
is_small (Value (Some Text)) = true
is_small (Value (Some Chandle)) = true
