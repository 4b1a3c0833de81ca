-- The parsers of statements, as functions.
use Rattle.std.specs.Prelude.{ℕ, zero, suc, ◌⊎◌, List, [], Option, Some, None}
use Rattle.std.proofs.Common.{inl, inr}
use Rattle.dpi_grammar.specs.Parser.{◌>>=◌, ◌<$>◌, pure, here, first, expect, optional, more, branches, level}
use Rattle.dpi_grammar.specs.Choices.{choose}
use Rattle.c_tree.specs.declared.class.Class.TheVariants as classes
use Rattle.c_tree.specs.declared.expr.CExpr.{CExpr}
use Rattle.c_tree.specs.declared.statements.Start.{Start}
use Rattle.c_tree.specs.declared.statements.Start.TheVariants as starts
use Rattle.c_tree.specs.declared.statements.Stmt.{Stmt}
use Rattle.c_tree.specs.declared.statements.Stmt.TheVariants as stmts
use Rattle.c_tree.specs.declared.statements.Block.{Block, roll-Block}
use Rattle.c_tree.specs.declared.statements.Part.{Part}
use Rattle.c_tree.specs.declared.statements.Part.TheVariants as parts
use Rattle.c_tree.specs.declared.statements.If.{If, roll-If}
use Rattle.c_tree.specs.declared.statements.Else.{Else, roll-Else}
use Rattle.c_tree.specs.declared.statements.ElseIf.{ElseIf, roll-ElseIf}
use Rattle.c_tree.specs.Classes.{class_at, is}
use Rattle.c_cursor.specs.Reading.{Parses}
use Rattle.c_expr.specs.Front.{begins_expr}
use Rattle.c_expr.specs.Reading.{expr}
use Rattle.c_parse.specs.declared.front.Front.{Front}
use Rattle.c_parse.specs.declared.front.Front.TheVariants as fronts
use Rattle.c_parse.specs.declared.front.Nest.{Nest}
use Rattle.c_parse.specs.declared.front.Nest.TheVariants as nests
use Rattle.c_parse.specs.declared.branch.Branch.{Branch}
use Rattle.c_parse.specs.declared.branch.Branch.TheVariants as behind
use Rattle.c_parse.specs.Front.{front_of, begins_variables, begins_part}
use Rattle.c_parse.specs.ReadingDeclarations.{variables_by}

-- ---- statements without a statement inside

-- ";"
unfoldable pub empty : Parses Stmt
empty = do
  k ← here
  _ ← expect (is classes.Semicolon)
  pure (stmts.Empty k)

-- "break" ";"
unfoldable pub break_stmt : Parses Stmt
break_stmt = do
  k ← here
  _ ← expect (is classes.Break)
  _ ← expect (is classes.Semicolon)
  pure (stmts.Break k)

-- "continue" ";"
unfoldable pub continue_stmt : Parses Stmt
continue_stmt = do
  k ← here
  _ ← expect (is classes.Continue)
  _ ← expect (is classes.Semicolon)
  pure (stmts.Continue k)

module _ (e : Parses CExpr) where
  -- expr ";"
  unfoldable pub expr_stmt_by : Parses Stmt
  expr_stmt_by = do
    x ← e
    _ ← expect (is classes.Semicolon)
    pure (stmts.Expr x)

  -- expr?
  abbrev pub optional_by : Parses (Option CExpr)
  optional_by = optional begins_expr e

  -- "return" expr? ";"
  unfoldable pub return_by : Parses Stmt
  return_by = do
    k ← here
    _ ← expect (is classes.Return)
    x ← optional_by
    _ ← expect (is classes.Semicolon)
    pure (stmts.Return k x)

  -- "(" expr ")" behind a keyword
  unfoldable pub condition_by : Parses CExpr
  condition_by = do
    _ ← expect (is classes.OpenParen)
    x ← e
    _ ← expect (is classes.CloseParen)
    pure x

  -- expr? ";"
  unfoldable pub start_expr_by : Parses Start
  start_expr_by = do
    x ← optional_by
    _ ← expect (is classes.Semicolon)
    pure (starts.Expr x)

  -- what a `for` begins with: vardecl | expr? ";"
  abbrev pub start_by : Parses Start
  start_by = choose begins_variables (starts.Variables <$> variables_by e) start_expr_by

-- ---- statements with a statement inside, whose parts are of a level

-- an `else if` part, or the last `else`
abbrev pub branch_sort : Branch → ElseIf ⊎ Else
branch_sort (behind.Other p) = inl p
branch_sort (behind.Last p) = inr p

module _ (e : Parses CExpr) (s : Parses Stmt) where
  -- vardecl | stmt
  abbrev pub part_by : Parses Part
  part_by = choose begins_variables (parts.Variables <$> variables_by e) (parts.Stmt <$> s)

  -- (vardecl | stmt)*
  abbrev pub parts_by : Parses (List Part)
  parts_by = more begins_part part_by []

  -- block = "{" (vardecl | stmt)* "}"
  unfoldable pub block_by : Parses Block
  block_by = do
    k ← here
    _ ← expect (is classes.OpenBrace)
    ps ← parts_by
    j ← here
    _ ← expect (is classes.CloseBrace)
    pure (roll-Block (record { token = k; parts = ps; end = j }))

  -- "if" "(" expr ")" stmt, behind an `else`
  unfoldable pub else_if_by : ℕ → Parses ElseIf
  else_if_by k = do
    _ ← expect (is classes.If)
    x ← condition_by e
    b ← s
    pure (roll-ElseIf (record { token = k; condition = x; body = b }))

  -- stmt, behind an `else`
  unfoldable pub else_by : ℕ → Parses Else
  else_by k = do
    b ← s
    pure (roll-Else (record { token = k; body = b }))

  abbrev pub behind_else_by : ℕ → Parses Branch
  behind_else_by k = choose (is classes.If) (behind.Other <$> else_if_by k) (behind.Last <$> else_by k)

  -- "else" "if" "(" expr ")" stmt | "else" stmt
  unfoldable pub branch_by : Parses Branch
  branch_by = do
    k ← here
    _ ← expect (is classes.Else)
    behind_else_by k

  -- the `else if` parts, and the last `else`
  abbrev pub branches_by : Parses (List ElseIf × Option Else)
  branches_by = branches (is classes.Else) (branch_sort <$> branch_by)

  -- "if" "(" expr ")" stmt ("else" "if" "(" expr ")" stmt)* ("else" stmt)?
  unfoldable pub if_by : Parses If
  if_by = do
    k ← here
    _ ← expect (is classes.If)
    x ← condition_by e
    b ← s
    p ← branches_by
    pure (roll-If (record { token = k; condition = x; body = b; others = p.0; last = p.1 }))

  -- "while" "(" expr ")" stmt
  unfoldable pub while_by : Parses Stmt
  while_by = do
    k ← here
    _ ← expect (is classes.While)
    x ← condition_by e
    b ← s
    pure (stmts.While k x b)

  -- "do" stmt "while" "(" expr ")" ";"
  unfoldable pub do_by : Parses Stmt
  do_by = do
    k ← here
    _ ← expect (is classes.Do)
    b ← s
    j ← here
    _ ← expect (is classes.While)
    x ← condition_by e
    _ ← expect (is classes.Semicolon)
    pure (stmts.Do k b j x)

  -- stmt, behind the parentheses of a `for`
  abbrev pub for_body_by : ℕ → Start → Option CExpr → Option CExpr → Parses Stmt
  for_body_by k a x y = do
    b ← s
    pure (stmts.For k a x y b)

  -- expr? ")" stmt, behind the second ";" of a `for`
  abbrev pub for_step_by : ℕ → Start → Option CExpr → Parses Stmt
  for_step_by k a x = do
    y ← optional_by e
    _ ← expect (is classes.CloseParen)
    for_body_by k a x y

  -- expr? ";" expr? ")" stmt, behind what a `for` begins with
  abbrev pub for_test_by : ℕ → Start → Parses Stmt
  for_test_by k a = do
    x ← optional_by e
    _ ← expect (is classes.Semicolon)
    for_step_by k a x

  -- "for" "(" (vardecl | expr? ";") expr? ";" expr? ")" stmt
  unfoldable pub for_by : Parses Stmt
  for_by = do
    k ← here
    _ ← expect (is classes.For)
    _ ← expect (is classes.OpenParen)
    a ← start_by e
    for_test_by k a

  abbrev pub nested_by : Nest → Parses Stmt
  nested_by nests.Block = stmts.Block <$> block_by
  nested_by nests.If = stmts.If <$> if_by
  nested_by nests.While = while_by
  nested_by nests.Do = do_by
  nested_by nests.For = for_by

-- ---- levels

-- what reads the parts of a level
pub record Readers : Type 0 where
  pub value : Parses CExpr
  pub body : Parses Stmt

-- what reads parts one level further in, where one is left
abbrev pub Inner : Type 0
Inner = Option Readers

-- stmt, by what its first token says
abbrev pub stmt_by : Parses CExpr → Inner → Front → Parses Stmt
stmt_by e inner fronts.Empty = empty
stmt_by e inner fronts.Expr = expr_stmt_by e
stmt_by e inner fronts.Return = return_by e
stmt_by e inner fronts.Break = break_stmt
stmt_by e inner fronts.Continue = continue_stmt
stmt_by e inner (fronts.Nested n) = level inner (λ r. nested_by r.value r.body n)

unfoldable pub stmt_in : Parses CExpr → Inner → Parses Stmt
stmt_in e inner = λ s. stmt_by e inner (front_of (class_at (first s.rest))) s

-- what reads the parts inside, where this many levels are left
abbrev pub inside : ℕ → Inner
inside zero = None
inside (suc d) = Some (record { value = expr d; body = stmt_in (expr d) (inside d) })

-- the same, where this many levels are left inside
abbrev pub readers : ℕ → Readers
readers d = record { value = expr d; body = stmt_in (expr d) (inside d) }

-- stmt
abbrev pub stmt : ℕ → Parses Stmt
stmt d = stmt_in (expr d) (inside d)
