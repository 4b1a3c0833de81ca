-- The parsers of formals, imports and exports, and of what stands before the body of a function or a task, as functions.
use Rattle.std.specs.Prelude.{Bool, true, false, ◌||◌, List, Option}
use Rattle.dpi_grammar.specs.Parser.{◌>>=◌, ◌>>◌, ◌<$>◌, pure, here, expect, token, optional, more, separated, listed, is_there}
use Rattle.dpi_grammar.specs.Choices.{choose}
use Rattle.dpi_lex.specs.Words.{Word}
use Rattle.sv_tree.specs.declared.class.Class.TheVariants as classes
use Rattle.sv_tree.specs.declared.kinds.Lifetime.{Lifetime}
use Rattle.sv_tree.specs.declared.kinds.Direction.{Direction}
use Rattle.sv_tree.specs.declared.kinds.Property.{Property}
use Rattle.sv_tree.specs.declared.leaves.Name.{Name}
use Rattle.sv_tree.specs.declared.types.DataType.{DataType}
use Rattle.sv_tree.specs.declared.types.ImportType.{ImportType}
use Rattle.sv_tree.specs.declared.items.Life.{Life}
use Rattle.sv_tree.specs.declared.items.Way.{Way}
use Rattle.sv_tree.specs.declared.items.Trait.{Trait}
use Rattle.sv_tree.specs.declared.items.Formal.{Formal}
use Rattle.sv_tree.specs.declared.items.ImportFormal.{ImportFormal}
use Rattle.sv_tree.specs.declared.items.Outcome.{Outcome}
use Rattle.sv_tree.specs.declared.items.Outcome.TheVariants as outcomes
use Rattle.sv_tree.specs.declared.items.ImportKind.{ImportKind}
use Rattle.sv_tree.specs.declared.items.ImportKind.TheVariants as import_kinds
use Rattle.sv_tree.specs.declared.items.Import.{Import}
use Rattle.sv_tree.specs.declared.items.Export.{Export}
use Rattle.sv_tree.specs.Classes.{class_at, is}
use Rattle.sv_tree.specs.Kinds.{lifetime_of, direction_of, property_of}
use Rattle.sv_cursor.specs.Reading.{Parses, name, text}
use Rattle.sv_types.specs.Reading.{begins_data_type, data_type, dimensions, import_type, import_dimensions}

-- ---- words that stand for a choice

abbrev pub begins_life : Option Word → Bool
begins_life t = is_there (lifetime_of (class_at t))

abbrev pub begins_direction : Option Word → Bool
begins_direction t = is_there (direction_of (class_at t))

abbrev pub begins_property : Option Word → Bool
begins_property t = is_there (property_of (class_at t))

abbrev pub lifetime : Parses Lifetime
lifetime = token (λ t. lifetime_of (class_at t))

abbrev pub way : Parses Direction
way = token (λ t. direction_of (class_at t))

abbrev pub trait_word : Parses Property
trait_word = token (λ t. property_of (class_at t))

-- life = "automatic" | "static"
unfoldable pub life : Parses Life
life = do
  k ← here
  l ← lifetime
  pure (record { token = k; lifetime = l })

-- life?
abbrev pub optional_life : Parses (Option Life)
optional_life = optional begins_life life

-- direction = "input" | "output" | "inout"
unfoldable pub direction : Parses Way
direction = do
  k ← here
  d ← way
  pure (record { token = k; direction = d })

-- direction?
abbrev pub optional_direction : Parses (Option Way)
optional_direction = optional begins_direction direction

-- "context" | "pure"
unfoldable pub property : Parses Trait
property = do
  k ← here
  p ← trait_word
  pure (record { token = k; property = p })

-- ("context" | "pure")?
abbrev pub optional_property : Parses (Option Trait)
optional_property = optional begins_property property

-- ---- what a function gives

-- "void"
unfoldable pub void : Parses Outcome
void = do
  k ← here
  _ ← expect (is classes.Void)
  pure (outcomes.Void k)

-- type | "void"
unfoldable pub outcome : Parses Outcome
outcome = choose (is classes.Void) void (outcomes.Data <$> data_type)

-- ---- formals

-- what begins a formal: a direction, a type or a name
abbrev pub begins_formal : Option Word → Bool
begins_formal t = begins_direction t || (begins_data_type t || is classes.Name t)

-- type?
abbrev pub optional_type : Parses (Option DataType)
optional_type = optional begins_data_type data_type

-- formal = direction? type? name dimension*
unfoldable pub formal : Parses Formal
formal = do
  w ← optional_direction
  t ← optional_type
  n ← name
  ds ← dimensions
  pure (record { way = w; kind = t; name = n; dimensions = ds })

-- "," formal
abbrev pub next_formal : Parses Formal
next_formal = expect (is classes.Comma) >> formal

-- ("," formal)*, behind those found so far
abbrev pub more_formals : List Formal → Parses (List Formal)
more_formals found = more (is classes.Comma) next_formal found

-- formal,+
abbrev pub some_formals : Parses (List Formal)
some_formals = separated (is classes.Comma) formal

-- (formal,+)?
abbrev pub listed_formals : Parses (List Formal)
listed_formals = listed begins_formal (is classes.Comma) formal

-- formals = "(" (formal,+)? ")"
unfoldable pub formals : Parses (List Formal)
formals = do
  _ ← expect (is classes.OpenParen)
  fs ← listed_formals
  _ ← expect (is classes.CloseParen)
  pure fs

-- formals?
abbrev pub optional_formals : Parses (Option (List Formal))
optional_formals = optional (is classes.OpenParen) formals

-- ---- formals of imports

-- import_type?
abbrev pub optional_import_type : Parses (Option ImportType)
optional_import_type = optional begins_data_type import_type

-- import_formal = direction? import_type? name import_dimension*
unfoldable pub import_formal : Parses ImportFormal
import_formal = do
  w ← optional_direction
  t ← optional_import_type
  n ← name
  ds ← import_dimensions
  pure (record { way = w; kind = t; name = n; dimensions = ds })

-- "," import_formal
abbrev pub next_import_formal : Parses ImportFormal
next_import_formal = expect (is classes.Comma) >> import_formal

-- ("," import_formal)*, behind those found so far
abbrev pub more_import_formals : List ImportFormal → Parses (List ImportFormal)
more_import_formals found = more (is classes.Comma) next_import_formal found

-- import_formal,+
abbrev pub some_import_formals : Parses (List ImportFormal)
some_import_formals = separated (is classes.Comma) import_formal

-- (import_formal,+)?
abbrev pub listed_import_formals : Parses (List ImportFormal)
listed_import_formals = listed begins_formal (is classes.Comma) import_formal

-- "(" (import_formal,+)? ")"
unfoldable pub import_formals : Parses (List ImportFormal)
import_formals = do
  _ ← expect (is classes.OpenParen)
  fs ← listed_import_formals
  _ ← expect (is classes.CloseParen)
  pure fs

-- ("(" (import_formal,+)? ")")?
abbrev pub optional_import_formals : Parses (Option (List ImportFormal))
optional_import_formals = optional (is classes.OpenParen) import_formals

-- ---- imports and exports

-- name "="
unfoldable pub c_name : Parses Name
c_name = do
  n ← name
  _ ← expect (is classes.Assign)
  pure n

-- (name "=")?
abbrev pub optional_c_name : Parses (Option Name)
optional_c_name = optional (is classes.Name) c_name

-- "function" (type | "void")
unfoldable pub import_function : Parses ImportKind
import_function = do
  k ← here
  _ ← expect (is classes.Function)
  o ← outcome
  pure (import_kinds.Function k o)

-- "task"
unfoldable pub import_task : Parses ImportKind
import_task = do
  k ← here
  _ ← expect (is classes.Task)
  pure (import_kinds.Task k)

-- "function" (type | "void") | "task"
unfoldable pub import_kind : Parses ImportKind
import_kind = choose (is classes.Task) import_task import_function

-- import = "import" string ("context" | "pure")? (name "=")? ("function" (type | "void") | "task") name ("(" (import_formal,+)? ")")? ";"
unfoldable pub import : Parses Import
import = do
  k ← here
  _ ← expect (is classes.Import)
  s ← text
  p ← optional_property
  c ← optional_c_name
  i ← import_kind
  n ← name
  fs ← optional_import_formals
  _ ← expect (is classes.Semicolon)
  pure (record { token = k; text = s; property = p; c_name = c; kind = i; name = n; formals = fs })

-- "function" | "task": whether it is a task
unfoldable pub export_kind : Parses Bool
export_kind = choose (is classes.Task) (expect (is classes.Task) >> pure true) (expect (is classes.Function) >> pure false)

-- export = "export" string (name "=")? ("function" | "task") name ";"
unfoldable pub export : Parses Export
export = do
  k ← here
  _ ← expect (is classes.Export)
  s ← text
  c ← optional_c_name
  t ← export_kind
  n ← name
  _ ← expect (is classes.Semicolon)
  pure (record { token = k; text = s; c_name = c; task = t; name = n })
