-- The parsers of what changes a variable, as functions.
use Rattle.std.specs.Prelude.{ℕ}
use Rattle.dpi_grammar.specs.Parser.{◌>>=◌, pure, here, expect, token}
use Rattle.dpi_grammar.specs.Choices.{choose}
use Rattle.sv_tree.specs.declared.class.Class.TheVariants as classes
use Rattle.sv_tree.specs.declared.expr.Lvalue.{Lvalue}
use Rattle.sv_tree.specs.declared.statements.Change.{Change}
use Rattle.sv_tree.specs.declared.statements.Change.TheVariants as changes
use Rattle.sv_tree.specs.declared.statements.Start.{Start}
use Rattle.sv_tree.specs.declared.statements.Start.TheVariants as starts
use Rattle.sv_tree.specs.Classes.{class_at, is}
use Rattle.sv_tree.specs.Operators.{assign_of}
use Rattle.sv_tree.specs.Kinds.{step_of}
use Rattle.sv_cursor.specs.Reading.{Parses, name}
use Rattle.sv_types.specs.Reading.{begins_data_type, data_type}
use Rattle.sv_expr.specs.Reading.{expr, lvalue}
use Rattle.sv_stmt.specs.Front.{begins_step}
use Rattle.sv_stmt.specs.ReadingVariables.{init}

-- ---- behind what is changed

-- "=" init
unfoldable pub assign_tail : ℕ → Lvalue → Parses Change
assign_tail d l = do
  k ← here
  _ ← expect (is classes.Assign)
  i ← init d
  pure (changes.Assign l k i)

-- "++" | "--"
unfoldable pub step_tail : Lvalue → Parses Change
step_tail l = do
  k ← here
  o ← token (λ t. step_of (class_at t))
  pure (changes.Step l k o)

-- assignop expr
unfoldable pub compute_tail : ℕ → Lvalue → Parses Change
compute_tail d l = do
  k ← here
  o ← token (λ t. assign_of (class_at t))
  e ← expr d
  pure (changes.Compute l k o e)

-- "=" init | "++" | "--" | assignop expr
unfoldable pub change_tail : ℕ → Lvalue → Parses Change
change_tail d l = choose (is classes.Assign) (assign_tail d l) (choose begins_step (step_tail l) (compute_tail d l))

-- lvalue "=" init | lvalue assignop expr | lvalue ("++" | "--")
unfoldable pub change : ℕ → Parses Change
change d = lvalue d >>= change_tail d

-- ---- what a `for` begins with

-- type id "=" expr
unfoldable pub declared_start : ℕ → Parses Start
declared_start d = do
  t ← data_type
  n ← name
  k ← here
  _ ← expect (is classes.Assign)
  e ← expr d
  pure (starts.Declare t n k e)

-- lvalue "=" expr
unfoldable pub assigned_start : ℕ → Parses Start
assigned_start d = do
  l ← lvalue d
  k ← here
  _ ← expect (is classes.Assign)
  e ← expr d
  pure (starts.Assign l k e)

-- type id "=" expr | lvalue "=" expr
unfoldable pub start : ℕ → Parses Start
start d = choose begins_data_type (declared_start d) (assigned_start d)
