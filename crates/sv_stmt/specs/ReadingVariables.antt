-- The parsers of declarations of variables, as functions.
use Rattle.std.specs.Prelude.{ℕ, zero, suc, List, [], Option, Some, None}
use Rattle.dpi_grammar.specs.Parser.{◌>>=◌, ◌>>◌, ◌<$>◌, pure, here, expect, optional, more, separated, level}
use Rattle.dpi_grammar.specs.Choices.{choose}
use Rattle.sv_tree.specs.declared.class.Class.TheVariants as classes
use Rattle.sv_tree.specs.declared.statements.Init.{Init}
use Rattle.sv_tree.specs.declared.statements.Init.TheVariants as inits
use Rattle.sv_tree.specs.declared.statements.Initializer.{Initializer}
use Rattle.sv_tree.specs.declared.statements.Declarator.{Declarator}
use Rattle.sv_tree.specs.declared.statements.Variables.{Variables}
use Rattle.sv_tree.specs.Classes.{is}
use Rattle.sv_cursor.specs.Reading.{Parses, name}
use Rattle.sv_types.specs.Reading.{begins_data_type, data_type, dimensions}
use Rattle.sv_expr.specs.Reading.{expr}

-- "," init
abbrev pub next_init : Parses Init → Parses Init
next_init i = expect (is classes.Comma) >> i

-- "'{" init,+ "}", of which each init is read so
unfoldable pub pattern_by : Parses Init → Parses Init
pattern_by i = do
  k ← here
  _ ← expect (is classes.Pattern)
  xs ← separated (is classes.Comma) i
  _ ← expect (is classes.CloseBrace)
  pure (inits.Pattern k xs)

-- what reads an init one level further in, where one is left
abbrev pub Patterns : Type 0
Patterns = Option (Parses Init)

-- expr | "'{" init,+ "}"
unfoldable pub init_in : ℕ → Patterns → Parses Init
init_in d inner = choose (is classes.Pattern) (level inner pattern_by) (inits.Value <$> expr d)

-- what reads an init inside, where this many levels are left
abbrev pub patterns : ℕ → Patterns
patterns zero = None
patterns (suc d) = Some (init_in d (patterns d))

-- init
abbrev pub init : ℕ → Parses Init
init d = init_in d (patterns d)

-- "=" init
unfoldable pub initializer : ℕ → Parses Initializer
initializer d = do
  k ← here
  _ ← expect (is classes.Assign)
  i ← init d
  pure (record { token = k; value = i })

-- ("=" init)?
abbrev pub optional_initializer : ℕ → Parses (Option Initializer)
optional_initializer d = optional (is classes.Assign) (initializer d)

-- id dim* ("=" init)?
unfoldable pub declarator : ℕ → Parses Declarator
declarator d = do
  n ← name
  ds ← dimensions
  i ← optional_initializer d
  pure (record { name = n; dimensions = ds; initializer = i })

-- "," declarator
abbrev pub next_declarator : ℕ → Parses Declarator
next_declarator d = expect (is classes.Comma) >> declarator d

-- declarator,+
abbrev pub declarators : ℕ → Parses (List Declarator)
declarators d = separated (is classes.Comma) (declarator d)

-- type declarator,+ ";"
unfoldable pub variables : ℕ → Parses Variables
variables d = do
  t ← data_type
  ds ← declarators d
  _ ← expect (is classes.Semicolon)
  pure (record { kind = t; declarators = ds })

-- variables*
abbrev pub declarations : ℕ → Parses (List Variables)
declarations d = more begins_data_type (variables d) []
