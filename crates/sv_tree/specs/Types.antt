-- What types and dimensions tell.
use Rattle.std.specs.Prelude.{ℕ, Option, option_map}
use Rattle.dpi_grammar.specs.Told.{◌&◌, noted, maybe}
use Rattle.sv_tree.specs.declared.class.Class.TheVariants as classes
use Rattle.sv_tree.specs.declared.types.Range.{Range}
use Rattle.sv_tree.specs.declared.types.Sign.{Sign}
use Rattle.sv_tree.specs.declared.types.DataType.{DataType}
use Rattle.sv_tree.specs.declared.types.DataType.TheVariants as types
use Rattle.sv_tree.specs.declared.types.Dimension.{Dimension}
use Rattle.sv_tree.specs.declared.types.Dimension.TheVariants as dimensions
use Rattle.sv_tree.specs.declared.types.ImportType.{ImportType}
use Rattle.sv_tree.specs.declared.types.ImportType.TheVariants as import_types
use Rattle.sv_tree.specs.declared.types.ImportDimension.{ImportDimension}
use Rattle.sv_tree.specs.declared.types.ImportDimension.TheVariants as import_dimensions
use Rattle.sv_tree.specs.Kinds.{vector_class, whole_class, signing_class}
use Rattle.sv_tree.specs.Expressions.{Tells, quoted, bound_told, number_told}

-- "[" bound ":" bound "]"
abbrev pub range_told : Range → Tells
range_told r = noted r.token & quoted classes.OpenBracket & bound_told r.left & quoted classes.Colon & bound_told r.right & quoted classes.CloseBracket

abbrev pub sign_told : Sign → Tells
sign_told s = noted s.token & quoted (signing_class s.signing)

-- vec sign? range? | whole sign? | "integer" | "string" | "chandle"
abbrev pub type_told : DataType → Tells
type_told (types.Vector k v s r) = noted k & quoted (vector_class v) & maybe (option_map sign_told s) & maybe (option_map range_told r)
type_told (types.Whole k w s) = noted k & quoted (whole_class w) & maybe (option_map sign_told s)
type_told (types.Integer k) = noted k & quoted classes.Integer
type_told (types.String k) = noted k & quoted classes.String
type_told (types.Chandle k) = noted k & quoted classes.Chandle

-- "[" bound ":" bound "]" | "[" number "]"
abbrev pub dimension_told : Dimension → Tells
dimension_told (dimensions.Range k a b) = noted k & quoted classes.OpenBracket & bound_told a & quoted classes.Colon & bound_told b & quoted classes.CloseBracket
dimension_told (dimensions.Size k n) = noted k & quoted classes.OpenBracket & number_told n & quoted classes.CloseBracket

-- type | vec sign? "[" "]"
abbrev pub import_type_told : ImportType → Tells
import_type_told (import_types.Data t) = type_told t
import_type_told (import_types.Unsized k v s o) = noted k & quoted (vector_class v) & maybe (option_map sign_told s) & noted o & quoted classes.OpenBracket & quoted classes.CloseBracket

-- dim | "[" "]"
abbrev pub import_dimension_told : ImportDimension → Tells
import_dimension_told (import_dimensions.Sized d) = dimension_told d
import_dimension_told (import_dimensions.Unsized k) = noted k & quoted classes.OpenBracket & quoted classes.CloseBracket
