-- Equal kinds of formals and results.
use Rattle.std.specs.Prelude.{Bool, true, false, ◌==◌, ◌&&◌, Option, Some, None, List, [], ◌∷◌, map}
use denote.Enum.Bare.{sameb}
use Rattle.dpi_shape.specs.declared.range.Range.{Range}
use Rattle.dpi_shape.specs.declared.leaf.Leaf.{Leaf}
use Rattle.dpi_shape.specs.declared.leaf.Leaf.TheVariants as leaves
use Rattle.dpi_shape.specs.declared.shape.Shape.{Shape}
use Rattle.dpi_shape.specs.Range.{size}
use Rattle.dpi_shape.specs.Leaf.{width, is_four_state}
use Rattle.dpi_shape.specs.Shape.{leaf_of, dims_of}
use Rattle.sv_shapes.specs.declared.kinds.VarKind.{VarKind}
use Rattle.sv_shapes.specs.declared.kinds.VarKind.TheVariants as kinds
use Rattle.sv_shapes.specs.declared.formals.OpenLeaf.{OpenLeaf}
use Rattle.sv_shapes.specs.declared.formals.OpenLeaf.TheVariants as opens
use Rattle.sv_shapes.specs.declared.formals.OpenDims.{OpenDims}
use Rattle.sv_shapes.specs.declared.imports.FormalKind.{FormalKind}
use Rattle.sv_shapes.specs.declared.imports.FormalKind.TheVariants.{Sized, Open}
use Rattle.sv_shapes.specs.Formals.{open_ranges_of}
use Rattle.dpi_boundary.specs.contracts.kinds.Form.{the_type}
use Rattle.dpi_boundary.specs.declared.kinds.Form.{Form}
use Rattle.dpi_boundary.specs.declared.kinds.Form.TheVariants.{Scalar, Vector, Whole}
use Rattle.dpi_boundary.specs.Fits.{agree}

-- how a leaf type is written
abbrev pub form_of : Leaf → Form
form_of (leaves.Bit signed) = Scalar
form_of (leaves.Logic signed) = Scalar
form_of (leaves.BitVec range signed) = Vector
form_of (leaves.LogicVec range signed) = Vector
form_of whole = Whole

abbrev pub is_signed : Leaf → Bool
is_signed (leaves.Bit signed) = signed
is_signed (leaves.Logic signed) = signed
is_signed (leaves.Byte signed) = signed
is_signed (leaves.Short signed) = signed
is_signed (leaves.Int signed) = signed
is_signed (leaves.Long signed) = signed
is_signed (leaves.BitVec range signed) = signed
is_signed (leaves.LogicVec range signed) = signed

-- one form, width, number of states and sign
abbrev pub same_leaf : Leaf → Leaf → Bool
same_leaf a b =
    sameb the_type (form_of a) (form_of b)
    && (width a == width b && (agree (is_four_state a) (is_four_state b) && agree (is_signed a) (is_signed b)))

-- both open, or of one size
abbrev pub same_size : Option Range → Option Range → Bool
same_size None None = true
same_size None (Some q) = false
same_size (Some r) None = false
same_size (Some r) (Some q) = size r == size q

-- as many dimensions, each both open or both of one size
abbrev pub same_open_sizes : List (Option Range) → List (Option Range) → Bool
same_open_sizes [] [] = true
same_open_sizes [] (q ∷ qs) = false
same_open_sizes (r ∷ rs) [] = false
same_open_sizes (r ∷ rs) (q ∷ qs) = same_size r q && same_open_sizes rs qs

-- none of the dimensions of a shape is open
abbrev pub same_sizes : Shape → Shape → Bool
same_sizes s t = same_open_sizes (map Some (dims_of s)) (map Some (dims_of t))

-- both a string, both a chandle, or arrays of equal leaves and sizes
abbrev pub same_kind : VarKind → VarKind → Bool
same_kind (kinds.Cells s) (kinds.Cells t) = same_leaf (leaf_of s) (leaf_of t) && same_sizes s t
same_kind kinds.Text kinds.Text = true
same_kind kinds.Chandle kinds.Chandle = true
same_kind a b = false

-- equal leaves, or open packed parts of as many states and one sign
abbrev pub same_open_leaf : OpenLeaf → OpenLeaf → Bool
same_open_leaf (opens.Leaf a) (opens.Leaf b) = same_leaf a b
same_open_leaf (opens.AnyBit a) (opens.AnyBit b) = agree a b
same_open_leaf (opens.AnyLogic a) (opens.AnyLogic b) = agree a b
same_open_leaf a b = false

abbrev pub same_open_dims : OpenDims → OpenDims → Bool
same_open_dims d e = same_open_sizes (open_ranges_of d) (open_ranges_of e)

-- equal kinds, or open arrays of equal leaves and dimensions
abbrev pub same_formal_kind : FormalKind → FormalKind → Bool
same_formal_kind (Sized a) (Sized b) = same_kind a b
same_formal_kind (Open a d) (Open b e) = same_open_leaf a b && same_open_dims d e
same_formal_kind a b = false
