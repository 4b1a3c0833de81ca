-- The parsers of types and dimensions, as functions.
use Rattle.std.specs.Prelude.{ℕ, Bool, ◌||◌, List, [], Option, Some, None, if◌then◌else◌}
use Rattle.dpi_grammar.specs.Parser.{◌>>=◌, ◌>>◌, ◌<$>◌, pure, here, first, expect, token, optional, more, is_there}
use Rattle.dpi_lex.specs.Words.{Word}
use Rattle.sv_tree.specs.declared.class.Class.{Class}
use Rattle.sv_tree.specs.declared.class.Class.TheVariants as classes
use Rattle.sv_tree.specs.declared.kinds.VectorKind.{VectorKind}
use Rattle.sv_tree.specs.declared.kinds.WholeKind.{WholeKind}
use Rattle.sv_tree.specs.declared.kinds.Signing.{Signing}
use Rattle.sv_tree.specs.declared.leaves.Bound.{Bound}
use Rattle.sv_tree.specs.declared.types.Range.{Range}
use Rattle.sv_tree.specs.declared.types.Sign.{Sign}
use Rattle.sv_tree.specs.declared.types.DataType.{DataType}
use Rattle.sv_tree.specs.declared.types.DataType.TheVariants as types
use Rattle.sv_tree.specs.declared.types.Dimension.{Dimension}
use Rattle.sv_tree.specs.declared.types.Dimension.TheVariants as sized
use Rattle.sv_tree.specs.declared.types.ImportType.{ImportType}
use Rattle.sv_tree.specs.declared.types.ImportType.TheVariants as import_types
use Rattle.sv_tree.specs.declared.types.ImportDimension.{ImportDimension}
use Rattle.sv_tree.specs.declared.types.ImportDimension.TheVariants as import_sized
use Rattle.sv_tree.specs.Classes.{class_at, is_class, is}
use Rattle.sv_tree.specs.Kinds.{vector_of, whole_of, signing_of}
use Rattle.sv_cursor.specs.Reading.{Parses, bound}
use Rattle.sv_types.specs.declared.imported.Brackets.{Brackets}
use Rattle.sv_types.specs.declared.imported.Brackets.TheVariants.{Empty, Bounds}

-- one parser where the next token passes a test, and another where it doesn't
abbrev pub choose : {A : Type 0} → (Option Word → Bool) → Parses A → Parses A → Parses A
choose is p q = λ s. if is (first s.rest) then p s else q s

-- ---- first tokens

abbrev pub begins_sign : Option Word → Bool
begins_sign t = is_there (signing_of (class_at t))

abbrev pub begins_vector : Option Word → Bool
begins_vector t = is_there (vector_of (class_at t))

abbrev pub begins_whole : Option Word → Bool
begins_whole t = is_there (whole_of (class_at t))

-- a bracket, which begins a range and a dimension
abbrev pub begins_dimension : Option Word → Bool
begins_dimension = is classes.OpenBracket

-- a class of the words that begin a type
abbrev pub is_type_class : Option Class → Bool
is_type_class o = is_there (vector_of o) || (is_there (whole_of o) || (is_class classes.Integer o || (is_class classes.String o || is_class classes.Chandle o)))

abbrev pub begins_data_type : Option Word → Bool
begins_data_type t = is_type_class (class_at t)

-- ---- types

-- the word of a vector type
abbrev pub vector_kind : Parses VectorKind
vector_kind = token (λ t. vector_of (class_at t))

-- the word of a type of a fixed width
abbrev pub whole_kind : Parses WholeKind
whole_kind = token (λ t. whole_of (class_at t))

-- the word of a signing
abbrev pub signing : Parses Signing
signing = token (λ t. signing_of (class_at t))

-- sign = "signed" | "unsigned"
unfoldable pub sign : Parses Sign
sign = do
  k ← here
  s ← signing
  pure (record { token = k; signing = s })

-- sign?
abbrev pub optional_sign : Parses (Option Sign)
optional_sign = optional begins_sign sign

-- behind the bracket of that number: bound ":" bound "]"
unfoldable pub range_from : ℕ → Parses Range
range_from k = do
  a ← bound
  _ ← expect (is classes.Colon)
  b ← bound
  _ ← expect (is classes.CloseBracket)
  pure (record { token = k; left = a; right = b })

-- range = "[" bound ":" bound "]"
unfoldable pub range : Parses Range
range = do
  k ← here
  _ ← expect (is classes.OpenBracket)
  range_from k

-- range?
abbrev pub optional_range : Parses (Option Range)
optional_range = optional begins_dimension range

-- vec sign? range?
unfoldable pub vector : Parses DataType
vector = do
  k ← here
  v ← vector_kind
  s ← optional_sign
  r ← optional_range
  pure (types.Vector k v s r)

-- whole sign?
unfoldable pub whole : Parses DataType
whole = do
  k ← here
  w ← whole_kind
  s ← optional_sign
  pure (types.Whole k w s)

-- "integer"
unfoldable pub integer : Parses DataType
integer = do
  k ← here
  _ ← expect (is classes.Integer)
  pure (types.Integer k)

-- "string"
unfoldable pub string : Parses DataType
string = do
  k ← here
  _ ← expect (is classes.String)
  pure (types.String k)

-- "chandle"
unfoldable pub chandle : Parses DataType
chandle = do
  k ← here
  _ ← expect (is classes.Chandle)
  pure (types.Chandle k)

-- a type that isn't a vector: whole sign? | "integer" | "string" | "chandle"
unfoldable pub plain_type : Parses DataType
plain_type = choose begins_whole whole (choose (is classes.Integer) integer (choose (is classes.String) string chandle))

-- type = vec sign? range? | whole sign? | "integer" | "string" | "chandle"
unfoldable pub data_type : Parses DataType
data_type = choose begins_vector vector plain_type

-- ---- dimensions

-- behind the left bound: ":" bound "]"
unfoldable pub range_end : ℕ → Bound → Parses Dimension
range_end k a = do
  _ ← expect (is classes.Colon)
  b ← bound
  _ ← expect (is classes.CloseBracket)
  pure (sized.Range k a b)

-- behind a number: "]"
unfoldable pub size_end : ℕ → Bound → Parses Dimension
size_end k a = do
  _ ← expect (is classes.CloseBracket)
  pure (sized.Size k a.number)

-- A bound with a sign is the left one of two.
unfoldable pub dimension_end : ℕ → Bound → Parses Dimension
dimension_end k a = choose (λ t. a.negative || is classes.Colon t) (range_end k a) (size_end k a)

-- behind the bracket of that number: bound ":" bound "]" | number "]"
unfoldable pub dimension_from : ℕ → Parses Dimension
dimension_from k = bound >>= dimension_end k

-- dim = "[" bound ":" bound "]" | "[" number "]"
unfoldable pub dimension : Parses Dimension
dimension = do
  k ← here
  _ ← expect (is classes.OpenBracket)
  dimension_from k

-- dim*
abbrev pub dimensions : Parses (List Dimension)
dimensions = more begins_dimension dimension []

-- ---- formals of imports

-- behind the bracket of that number: "]" | bound ":" bound "]"
unfoldable pub bracketed_from : ℕ → Parses Brackets
bracketed_from k = choose (is classes.CloseBracket) (expect (is classes.CloseBracket) >> pure (Empty k)) (Bounds <$> range_from k)

-- "[" "]" | range
unfoldable pub bracketed : Parses Brackets
bracketed = do
  k ← here
  _ ← expect (is classes.OpenBracket)
  bracketed_from k

-- ("[" "]" | range)?
abbrev pub optional_bracketed : Parses (Option Brackets)
optional_bracketed = optional begins_dimension bracketed

-- a vector of an import, by what its brackets have
abbrev pub import_type_of : ℕ → VectorKind → Option Sign → Option Brackets → ImportType
import_type_of k v s None = import_types.Data (types.Vector k v s None)
import_type_of k v s (Some (Empty o)) = import_types.Unsized k v s o
import_type_of k v s (Some (Bounds r)) = import_types.Data (types.Vector k v s (Some r))

-- vec sign? ("[" "]" | range)?
unfoldable pub import_vector : Parses ImportType
import_vector = do
  k ← here
  v ← vector_kind
  s ← optional_sign
  b ← optional_bracketed
  pure (import_type_of k v s b)

-- itype = type | vec sign? "[" "]"
unfoldable pub import_type : Parses ImportType
import_type = choose begins_vector import_vector (import_types.Data <$> plain_type)

-- behind the bracket of that number
unfoldable pub import_dimension_from : ℕ → Parses ImportDimension
import_dimension_from k =
    choose (is classes.CloseBracket) (expect (is classes.CloseBracket) >> pure (import_sized.Unsized k)) (import_sized.Sized <$> dimension_from k)

-- idim = dim | "[" "]"
unfoldable pub import_dimension : Parses ImportDimension
import_dimension = do
  k ← here
  _ ← expect (is classes.OpenBracket)
  import_dimension_from k

-- idim*
abbrev pub import_dimensions : Parses (List ImportDimension)
import_dimensions = more begins_dimension import_dimension []
