-- The parsers of external declarations and files, as functions.
use Rattle.std.specs.Prelude.{ℕ, [], ◌∷◌}
use Rattle.dpi_grammar.specs.Parser.{◌>>=◌, ◌<$>◌, pure, here, expect, more, level, finish}
use Rattle.dpi_grammar.specs.Choices.{choose}
use Rattle.c_tree.specs.declared.class.Class.TheVariants as classes
use Rattle.c_tree.specs.declared.declarations.Variables.{Variables}
use Rattle.c_tree.specs.declared.file.Body.{Body}
use Rattle.c_tree.specs.declared.file.Body.TheVariants as bodies
use Rattle.c_tree.specs.declared.file.Function.{Function}
use Rattle.c_tree.specs.declared.file.External.{External}
use Rattle.c_tree.specs.declared.file.External.TheVariants as externals
use Rattle.c_tree.specs.declared.file.CFile.{CFile}
use Rattle.c_tree.specs.Classes.{is}
use Rattle.c_cursor.specs.Reading.{Parses, name, define}
use Rattle.c_types.specs.Reading.{type_name, stars}
use Rattle.c_expr.specs.Reading.{expr}
use Rattle.c_parse.specs.declared.head.Head.{Head}
use Rattle.c_parse.specs.Front.{begins_external}
use Rattle.c_parse.specs.ReadingDeclarations.{stored, declarator_behind, more_declarators_by, parameters}
use Rattle.c_parse.specs.ReadingStatements.{inside, block_by}

-- ";"
unfoldable pub prototype : Parses Body
prototype = do
  k ← here
  _ ← expect (is classes.Semicolon)
  pure (bodies.Prototype k)

-- ";" | block
abbrev pub body : ℕ → Parses Body
body d = choose (is classes.OpenBrace) (level (inside d) (λ r. bodies.Block <$> block_by r.value r.body)) prototype

-- store? type stars id, which functions and variables begin with
unfoldable pub head : Parses Head
head = do
  o ← stored
  t ← type_name
  ss ← stars
  n ← name
  pure (record { store = o; kind = t; stars = ss; name = n })

-- "(" params ")" (";" | block)
unfoldable pub function_behind : ℕ → Head → Parses Function
function_behind d h = do
  k ← here
  _ ← expect (is classes.OpenParen)
  ps ← parameters
  _ ← expect (is classes.CloseParen)
  b ← body d
  pure (record { store = h.store; kind = h.kind; stars = h.stars; name = h.name; token = k; params = ps; body = b })

-- ("[" size "]")? ("=" cinit)? ("," cdecl)* ";"
unfoldable pub variables_behind : ℕ → Head → Parses Variables
variables_behind d h = do
  x ← declarator_behind (expr d) h.stars h.name
  ds ← more_declarators_by (expr d) (x ∷ [])
  _ ← expect (is classes.Semicolon)
  pure (record { store = h.store; kind = h.kind; declarators = ds })

abbrev pub behind_head : ℕ → Head → Parses External
behind_head d h = choose (is classes.OpenParen) (externals.Function <$> function_behind d h) (externals.Variables <$> variables_behind d h)

-- store? type stars id "(" params ")" (";" | block) | vardecl
unfoldable pub declared : ℕ → Parses External
declared d = head >>= behind_head d

-- external = define | store? type stars id "(" params ")" (";" | block) | vardecl
abbrev pub external : ℕ → Parses External
external d = choose (is classes.Define) (externals.Define <$> define) (declared d)

-- external*
unfoldable pub file : ℕ → Parses CFile
file d = do
  xs ← more begins_external (external d) []
  pure (record { externals = xs })

-- a whole list of tokens
unfoldable pub whole : ℕ → Parses CFile
whole d = file d >>= finish
