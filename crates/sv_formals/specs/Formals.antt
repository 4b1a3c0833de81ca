-- The shape that a formal of an import has for an actual.
use Rattle.std.specs.Prelude.{ℕ, ◌+◌, ◌-◌, ◌==◌, if◌then◌else◌, pos, ◌-ℤ◌, Option, Some, None, List, [], ◌∷◌, slice_get}
use Rattle.dpi_shape.specs.declared.range.Range.{Range}
use Rattle.dpi_shape.specs.declared.leaf.Leaf.{Leaf}
use Rattle.dpi_shape.specs.declared.leaf.Leaf.TheVariants.{BitVec, LogicVec}
use Rattle.dpi_shape.specs.declared.shape.Shape.{Shape}
use Rattle.dpi_shape.specs.Leaf.{width}
use Rattle.dpi_shape.specs.Shape.{leaf_of, dims_of}
use Rattle.sv_shapes.specs.declared.kinds.VarKind.TheVariants as kinds
use Rattle.sv_shapes.specs.declared.formals.OpenLeaf.{OpenLeaf}
use Rattle.sv_shapes.specs.declared.formals.OpenLeaf.TheVariants as leaves
use Rattle.sv_shapes.specs.declared.imports.FormalKind.{FormalKind}
use Rattle.sv_shapes.specs.declared.imports.FormalKind.TheVariants as formals
use Rattle.sv_shapes.specs.Formals.{open_ranges_of}
use Rattle.sv_shapes.specs.Dimensions.{joined_range}
use Rattle.sv_shapes.specs.Kinds.{shape_at}

-- as many bits as an element of the actual has, numbered from 0
abbrev pub packed_range : Shape → Range
packed_range actual = record { left = pos (width (leaf_of actual)) -ℤ pos 1; right = pos 0 }

-- an open packed part has the actual's bits
abbrev pub taken_leaf : Shape → OpenLeaf → Leaf
taken_leaf actual (leaves.Leaf leaf) = leaf
taken_leaf actual (leaves.AnyBit signed) = BitVec (packed_range actual) signed
taken_leaf actual (leaves.AnyLogic signed) = LogicVec (packed_range actual) signed

-- the dimension of a shape of this number, counted from 1
abbrev pub range_at : Shape → ℕ → Option Range
range_at s number = if number == 0 then None else slice_get (dims_of s) (number - 1)

-- an open dimension of this number has the actual's range
abbrev pub taken_range : Shape → ℕ → Option Range → Option Range
taken_range actual number None = range_at actual number
taken_range actual number (Some r) = Some r

-- the ranges of dimensions, of which the first one here has this number, if the actual has those of the open ones
abbrev pub taken_ranges : Shape → ℕ → List (Option Range) → Option (List Range)
taken_ranges actual number [] = Some []
taken_ranges actual number (r ∷ rs) = joined_range (taken_range actual number r) (taken_ranges actual (number + 1) rs)

-- the shape of a formal of this kind for an actual, if it has cells and they are within the limits
abbrev pub formal_shape : FormalKind → Shape → Option Shape
formal_shape (formals.Sized (kinds.Cells s)) actual = Some s
formal_shape (formals.Sized kinds.Text) actual = None
formal_shape (formals.Sized kinds.Chandle) actual = None
formal_shape (formals.Open leaf dims) actual = shape_at (taken_leaf actual leaf) (taken_ranges actual 1 (open_ranges_of dims))
