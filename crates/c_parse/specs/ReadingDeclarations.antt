-- The parsers of declarations of variables and parameters, as functions.
use Rattle.std.specs.Prelude.{ℕ, List, [], ◌∷◌, Option, Some, None, if◌then◌else◌}
use Rattle.dpi_grammar.specs.Parser.{◌>>=◌, ◌>>◌, ◌<$>◌, pure, here, expect, token, optional, more, separated, listed}
use Rattle.dpi_grammar.specs.Choices.{choose}
use Rattle.c_tree.specs.declared.class.Class.TheVariants as classes
use Rattle.c_tree.specs.declared.leaves.Name.{Name}
use Rattle.c_tree.specs.declared.leaves.Number.{Number}
use Rattle.c_tree.specs.declared.types.Star.{Star}
use Rattle.c_tree.specs.declared.expr.CExpr.{CExpr}
use Rattle.c_tree.specs.declared.declarations.Store.{Store}
use Rattle.c_tree.specs.declared.declarations.Size.{Size}
use Rattle.c_tree.specs.declared.declarations.Size.TheVariants as sizes
use Rattle.c_tree.specs.declared.declarations.Array.{Array}
use Rattle.c_tree.specs.declared.declarations.Init.{Init}
use Rattle.c_tree.specs.declared.declarations.Init.TheVariants as inits
use Rattle.c_tree.specs.declared.declarations.Initializer.{Initializer}
use Rattle.c_tree.specs.declared.declarations.Declarator.{Declarator}
use Rattle.c_tree.specs.declared.declarations.Variables.{Variables}
use Rattle.c_tree.specs.declared.declarations.ParamArray.{ParamArray}
use Rattle.c_tree.specs.declared.declarations.Param.{Param}
use Rattle.c_tree.specs.declared.declarations.Params.{Params}
use Rattle.c_tree.specs.declared.declarations.Params.TheVariants as params
use Rattle.c_tree.specs.Classes.{class_at, is}
use Rattle.c_tree.specs.Stores.{store_of}
use Rattle.c_tree.specs.Declarations.{is_only_void}
use Rattle.c_cursor.specs.Reading.{Parses, name, number}
use Rattle.c_types.specs.Reading.{begins_type, type_name, stars}
use Rattle.c_parse.specs.Front.{begins_store, begins_size}

abbrev pub comma : Parses (Unit {0})
comma = expect (is classes.Comma)

-- "static" | "extern"
unfoldable pub store : Parses Store
store = do
  k ← here
  c ← token (λ t. store_of (class_at t))
  pure (record { token = k; kind = c })

-- store?
abbrev pub stored : Parses (Option Store)
stored = optional begins_store store

-- ---- sizes

-- "(" number ")", with the number of the "("
unfoldable pub argument : Parses (ℕ × Number)
argument = do
  k ← here
  _ ← expect (is classes.OpenParen)
  n ← number
  _ ← expect (is classes.CloseParen)
  pure (k, n)

abbrev pub size_of : Name → Option (ℕ × Number) → Size
size_of n None = sizes.Name n
size_of n (Some p) = sizes.Call n p.0 p.1

-- id ("(" number ")")?
unfoldable pub named_size : Parses Size
named_size = do
  n ← name
  a ← optional (is classes.OpenParen) argument
  pure (size_of n a)

-- size = number | id ("(" number ")")?
abbrev pub size : Parses Size
size = choose (is classes.Number) (sizes.Number <$> number) named_size

-- "[" size "]"
unfoldable pub array : Parses Array
array = do
  k ← here
  _ ← expect (is classes.OpenBracket)
  n ← size
  _ ← expect (is classes.CloseBracket)
  pure (record { token = k; size = n })

-- ---- variables, whose expressions are of a level

module _ (e : Parses CExpr) where
  -- "{" expr,+ "}"
  unfoldable pub init_list_by : Parses Init
  init_list_by = do
    k ← here
    _ ← expect (is classes.OpenBrace)
    xs ← separated (is classes.Comma) e
    _ ← expect (is classes.CloseBrace)
    pure (inits.List k xs)

  -- cinit = expr | "{" expr,+ "}"
  abbrev pub init_by : Parses Init
  init_by = choose (is classes.OpenBrace) init_list_by (inits.Value <$> e)

  -- "=" cinit
  unfoldable pub initializer_by : Parses Initializer
  initializer_by = do
    k ← here
    _ ← expect (is classes.Assign)
    x ← init_by
    pure (record { token = k; value = x })

  -- ("[" size "]")? ("=" cinit)?, behind stars and a name
  unfoldable pub declarator_behind : List Star → Name → Parses Declarator
  declarator_behind ss n = do
    a ← optional (is classes.OpenBracket) array
    x ← optional (is classes.Assign) initializer_by
    pure (record { stars = ss; name = n; array = a; initializer = x })

  -- cdecl = stars id ("[" size "]")? ("=" cinit)?
  unfoldable pub declarator_by : Parses Declarator
  declarator_by = do
    ss ← stars
    n ← name
    declarator_behind ss n

  -- "," cdecl
  abbrev pub next_declarator_by : Parses Declarator
  next_declarator_by = comma >> declarator_by

  -- ("," cdecl)*, behind those found so far
  abbrev pub more_declarators_by : List Declarator → Parses (List Declarator)
  more_declarators_by found = more (is classes.Comma) next_declarator_by found

  -- cdecl,+
  abbrev pub declarators_by : Parses (List Declarator)
  declarators_by = separated (is classes.Comma) declarator_by

  -- vardecl = store? type cdecl,+ ";"
  unfoldable pub variables_by : Parses Variables
  variables_by = do
    o ← stored
    t ← type_name
    ds ← declarators_by
    _ ← expect (is classes.Semicolon)
    pure (record { store = o; kind = t; declarators = ds })

-- ---- parameters

-- "[" size? "]"
unfoldable pub param_array : Parses ParamArray
param_array = do
  k ← here
  _ ← expect (is classes.OpenBracket)
  n ← optional begins_size size
  _ ← expect (is classes.CloseBracket)
  pure (record { token = k; size = n })

-- param = type stars id? ("[" size? "]")?
unfoldable pub param : Parses Param
param = do
  t ← type_name
  ss ← stars
  n ← optional (is classes.Name) name
  a ← optional (is classes.OpenBracket) param_array
  pure (record { kind = t; stars = ss; name = n; array = a })

-- "," param
abbrev pub next_param : Parses Param
next_param = comma >> param

-- one parameter that is the word `void` alone stands for none
abbrev pub params_of : List Param → Params
params_of [] = params.List []
params_of (p ∷ ps) = if is_only_void (p ∷ ps) then params.Void p.kind.token else params.List (p ∷ ps)

-- params = "void" | (param,+)?
abbrev pub parameters : Parses Params
parameters = params_of <$> listed begins_type (is classes.Comma) param
