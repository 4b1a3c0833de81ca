-- The parsers of items, modules and files, as functions.
use Rattle.std.specs.Prelude.{ℕ, Bool, ◌||◌, List, [], Option}
use Rattle.dpi_grammar.specs.Parser.{◌>>=◌, ◌>>◌, ◌<$>◌, pure, here, expect, optional, more, is_there, finish}
use Rattle.dpi_grammar.specs.Choices.{choose}
use Rattle.dpi_lex.specs.Words.{Word}
use Rattle.sv_tree.specs.declared.class.Class.TheVariants as classes
use Rattle.sv_tree.specs.declared.items.Body.{Body}
use Rattle.sv_tree.specs.declared.items.Function.{Function}
use Rattle.sv_tree.specs.declared.items.Task.{Task}
use Rattle.sv_tree.specs.declared.items.Item.{Item}
use Rattle.sv_tree.specs.declared.items.Item.TheVariants as items
use Rattle.sv_tree.specs.declared.items.Module.{Module}
use Rattle.sv_tree.specs.declared.items.SvFile.{SvFile}
use Rattle.sv_tree.specs.Classes.{is}
use Rattle.sv_cursor.specs.Reading.{Parses, name, optional_label}
use Rattle.sv_types.specs.Reading.{begins_data_type}
use Rattle.sv_stmt.specs.ReadingVariables.{variables, declarations}
use Rattle.sv_stmt.specs.ReadingStatements.{statement, statements}
use Rattle.sv_parse.specs.Headers.{optional_life, outcome, optional_formals, import, export}

-- ---- functions and tasks, where so many levels are left

-- variables* statement*
unfoldable pub body : ℕ → Parses Body
body d = do
  vs ← declarations d
  ss ← statements d
  pure (record { variables = vs; statements = ss })

-- function = "function" life? (type | "void") name formals? ";" variables* statement* "endfunction" label?
unfoldable pub function : ℕ → Parses Function
function d = do
  k ← here
  _ ← expect (is classes.Function)
  l ← optional_life
  o ← outcome
  n ← name
  fs ← optional_formals
  _ ← expect (is classes.Semicolon)
  b ← body d
  _ ← expect (is classes.EndFunction)
  e ← optional_label
  pure (record { token = k; life = l; outcome = o; name = n; formals = fs; body = b; end = e })

-- task = "task" life? name formals? ";" variables* statement* "endtask" label?
unfoldable pub task : ℕ → Parses Task
task d = do
  k ← here
  _ ← expect (is classes.Task)
  l ← optional_life
  n ← name
  fs ← optional_formals
  _ ← expect (is classes.Semicolon)
  b ← body d
  _ ← expect (is classes.EndTask)
  e ← optional_label
  pure (record { token = k; life = l; name = n; formals = fs; body = b; end = e })

-- ---- items

-- "initial" statement
unfoldable pub initial : ℕ → Parses Item
initial d = do
  k ← here
  _ ← expect (is classes.Initial)
  s ← statement d
  pure (items.Initial k s)

-- name name "(" ")" ";"
unfoldable pub instance : Parses Item
instance = do
  m ← name
  n ← name
  _ ← expect (is classes.OpenParen)
  _ ← expect (is classes.CloseParen)
  _ ← expect (is classes.Semicolon)
  pure (items.Instance m n)

-- what begins an item
abbrev pub begins_item : Option Word → Bool
begins_item t = begins_data_type t || (is classes.Import t || (is classes.Export t || (is classes.Function t || (is classes.Task t || (is classes.Initial t || is classes.Name t)))))

-- "initial" statement | name name "(" ")" ";"
unfoldable pub running_item : ℕ → Parses Item
running_item d = choose (is classes.Initial) (initial d) instance

-- function | task | what is none of those
unfoldable pub routine_item : ℕ → Parses Item
routine_item d = choose (is classes.Function) (items.Function <$> function d) (choose (is classes.Task) (items.Task <$> task d) (running_item d))

-- import | export | what is none of those
unfoldable pub foreign_item : ℕ → Parses Item
foreign_item d = choose (is classes.Import) (items.Import <$> import) (choose (is classes.Export) (items.Export <$> export) (routine_item d))

-- item = variables | import | export | function | task | "initial" statement | name name "(" ")" ";"
unfoldable pub item : ℕ → Parses Item
item d = choose begins_data_type (items.Variables <$> variables d) (foreign_item d)

-- item*
abbrev pub listed_items : ℕ → Parses (List Item)
listed_items d = more begins_item (item d) []

-- ---- modules and files

-- ("(" ")")?
unfoldable pub parentheses : Parses Bool
parentheses = is_there <$> optional (is classes.OpenParen) (expect (is classes.OpenParen) >> expect (is classes.CloseParen))

-- module = "module" name ("(" ")")? ";" item* "endmodule" label?
unfoldable pub one_module : ℕ → Parses Module
one_module d = do
  k ← here
  _ ← expect (is classes.Module)
  n ← name
  p ← parentheses
  _ ← expect (is classes.Semicolon)
  xs ← listed_items d
  _ ← expect (is classes.EndModule)
  e ← optional_label
  pure (record { token = k; name = n; parentheses = p; items = xs; end = e })

-- module*
abbrev pub modules : ℕ → Parses (List Module)
modules d = more (is classes.Module) (one_module d) []

-- file = module*
unfoldable pub file : ℕ → Parses SvFile
file d = do
  ms ← modules d
  pure (record { modules = ms })

-- a file, and then the end
abbrev pub whole_file : ℕ → Parses SvFile
whole_file d = file d >>= finish
