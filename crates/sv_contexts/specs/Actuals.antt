-- Actuals of imports: what fits a formal with an open dimension or an open packed part (35.5.6.1).
use Rattle.std.specs.Prelude.{ℕ, Bool, true, false, ◌==◌, ◌&&◌, if◌then◌else◌, Option, Some, None, List, [], ◌∷◌, length, slice_get}
use Rattle.dpi_rules.specs.declared.violation.Violation.{Violation}
use Rattle.dpi_shape.specs.declared.range.Range.{Range}
use Rattle.dpi_shape.specs.declared.leaf.Leaf.{Leaf}
use Rattle.dpi_shape.specs.declared.leaf.Leaf.TheVariants as leaves
use Rattle.dpi_shape.specs.declared.shape.Shape.{Shape}
use Rattle.dpi_shape.specs.Range.{size}
use Rattle.dpi_shape.specs.Shape.{leaf_of}
use Rattle.sv_shapes.specs.declared.kinds.VarKind.{VarKind}
use Rattle.sv_shapes.specs.declared.kinds.VarKind.TheVariants as kinds
use Rattle.sv_shapes.specs.declared.formals.OpenLeaf.{OpenLeaf}
use Rattle.sv_shapes.specs.declared.formals.OpenLeaf.TheVariants as opens
use Rattle.sv_shapes.specs.declared.formals.OpenDims.{OpenDims}
use Rattle.sv_shapes.specs.declared.imports.FormalKind.{FormalKind}
use Rattle.sv_shapes.specs.declared.imports.FormalKind.TheVariants as formals
use Rattle.sv_shapes.specs.Formals.{open_ranges_of}
use Rattle.sv_typing.specs.declared.types.ExprType.{ExprType}
use Rattle.sv_typing.specs.declared.types.ExprType.TheVariants as types
use Rattle.sv_typing.specs.declared.types.Operand.{Operand}
use Rattle.sv_typing.specs.Types.{is_array, range_left, kind_type}
use Rattle.sv_contexts.specs.Assignments.{assigned, fitted, kinds_broken, are_elements_equal}

-- what a plain packed variable has as its leaf; an array, a string and a chandle have none
abbrev pub plain_leaf : VarKind → Option Leaf
plain_leaf (kinds.Cells shape) = if is_array shape 0 then None else Some (leaf_of shape)
plain_leaf kinds.Text = None
plain_leaf kinds.Chandle = None

-- `bit` with a range
abbrev pub is_bit_vector : Leaf → Bool
is_bit_vector (leaves.BitVec range signed) = true
is_bit_vector other = false

-- `logic` or `reg` with a range, and `integer`
abbrev pub is_logic_vector : Leaf → Bool
is_logic_vector (leaves.LogicVec range signed) = true
is_logic_vector other = false

-- an open packed part fits vectors of its states, whatever their sign
abbrev pub fits_leaf : OpenLeaf → Leaf → Bool
fits_leaf (opens.Leaf leaf) actual = are_elements_equal leaf actual
fits_leaf (opens.AnyBit signed) actual = is_bit_vector actual
fits_leaf (opens.AnyLogic signed) actual = is_logic_vector actual

-- a packed actual that isn't plain counts as what the formal has
abbrev pub fits_plain : OpenLeaf → Option Leaf → Bool
fits_plain leaf None = true
fits_plain leaf (Some actual) = fits_leaf leaf actual

-- a dimension of the formal, which may be open, and one of the actual: as many indices, or neither is there
abbrev pub fits_dimension : Option (Option Range) → Option Range → Bool
fits_dimension None None = true
fits_dimension None (Some r) = false
fits_dimension (Some q) None = false
fits_dimension (Some None) (Some r) = true
fits_dimension (Some (Some q)) (Some r) = size q == size r

-- a dimension of the formal, counted from 0
abbrev pub formal_range : OpenDims → ℕ → Option (Option Range)
formal_range dims step = slice_get (open_ranges_of dims) step

-- as many dimensions, of which there are three at most, each of as many indices or open
abbrev pub are_dimensions_fitting : OpenDims → Shape → ℕ → Bool
are_dimensions_fitting dims shape taken =
    fits_dimension (formal_range dims 0) (range_left shape taken 0)
    && (fits_dimension (formal_range dims 1) (range_left shape taken 1) && fits_dimension (formal_range dims 2) (range_left shape taken 2))

-- the formal has no unpacked dimension
abbrev pub is_flat : OpenDims → Bool
is_flat dims = length (open_ranges_of dims) == 0

-- By the type of the actual: an array for a formal with dimensions, packed bits for one without. Nothing widens them.
abbrev pub opened : ℕ → ℕ → OpenLeaf → OpenDims → Option Leaf → ExprType → List Violation
opened file token leaf dims plain (types.Bits w s f) =
    if is_flat dims then fitted file token (fits_plain leaf plain) else kinds_broken file token ∷ []
opened file token leaf dims plain (types.Array shape taken) =
    if is_flat dims
    then kinds_broken file token ∷ []
    else fitted file token (fits_leaf leaf (leaf_of shape) && are_dimensions_fitting dims shape taken)
opened file token leaf dims plain other = kinds_broken file token ∷ []

-- an actual of an open formal looks where it has a type
abbrev pub opened_by : ℕ → ℕ → OpenLeaf → OpenDims → Option Leaf → Option Operand → List Violation
opened_by file token leaf dims plain None = []
opened_by file token leaf dims plain (Some o) = opened file token leaf dims plain o.of

-- An actual for a formal of an import, by the actual's first token; `plain` is the leaf of a packed variable that it names without selects.
abbrev pub passed : ℕ → ℕ → Option FormalKind → Option Leaf → Option Operand → List Violation
passed file token None plain actual = []
passed file token (Some (formals.Sized kind)) plain actual = assigned file token (Some (kind_type kind)) actual
passed file token (Some (formals.Open leaf dims)) plain actual = opened_by file token leaf dims plain actual
