-- The parsers of statements, as functions.
use Rattle.std.proofs.Common.{inl, inr}
use Rattle.std.specs.Prelude.{ℕ, zero, suc, ◌⊎◌, List, [], ◌∷◌, Option, Some, None}
use Rattle.dpi_grammar.specs.Parser.{◌>>=◌, ◌>>◌, ◌<$>◌, pure, here, expect, token, optional, more, branches, level}
use Rattle.dpi_grammar.specs.Choices.{choose}
use Rattle.sv_tree.specs.declared.class.Class.TheVariants as classes
use Rattle.sv_tree.specs.declared.kinds.ShowKind.{ShowKind}
use Rattle.sv_tree.specs.declared.leaves.Name.{Name}
use Rattle.sv_tree.specs.declared.leaves.Number.{Number}
use Rattle.sv_tree.specs.declared.expr.Expr.{Expr}
use Rattle.sv_tree.specs.declared.expr.Call.{roll-Call}
use Rattle.sv_tree.specs.declared.expr.Lvalue.{roll-Lvalue}
use Rattle.sv_tree.specs.declared.statements.Format.{Format}
use Rattle.sv_tree.specs.declared.statements.Start.{Start}
use Rattle.sv_tree.specs.declared.statements.Stmt.{Stmt}
use Rattle.sv_tree.specs.declared.statements.Stmt.TheVariants as stmts
use Rattle.sv_tree.specs.declared.statements.Block.{roll-Block}
use Rattle.sv_tree.specs.declared.statements.CaseItem.{CaseItem, roll-CaseItem}
use Rattle.sv_tree.specs.declared.statements.Else.{Else, roll-Else}
use Rattle.sv_tree.specs.declared.statements.ElseIf.{ElseIf, roll-ElseIf}
use Rattle.sv_tree.specs.declared.statements.If.{roll-If}
use Rattle.sv_tree.specs.Classes.{class_at, is}
use Rattle.sv_tree.specs.Kinds.{show_of}
use Rattle.sv_cursor.specs.Reading.{Parses, name, number, text, optional_label}
use Rattle.sv_expr.specs.Front.{begins_expr}
use Rattle.sv_expr.specs.Reading.{inside, expr, exprs, more_exprs, selects, actuals_by, flat_call}
use Rattle.sv_stmt.specs.declared.branches.ElsePart.{ElsePart}
use Rattle.sv_stmt.specs.declared.branches.ElsePart.TheVariants as parts
use Rattle.sv_stmt.specs.Front.{begins_statement, begins_show, begins_item}
use Rattle.sv_stmt.specs.ReadingVariables.{declarations}
use Rattle.sv_stmt.specs.ReadingChanges.{start, change, change_tail}

abbrev pub semicolon : Parses (Unit {0})
semicolon = expect (is classes.Semicolon)

-- ---- statements that hold no other statement

-- ";"
unfoldable pub empty : Parses Stmt
empty = do
  k ← here
  _ ← semicolon
  pure (stmts.Empty k)

-- "return" expr? ";"
unfoldable pub return_statement : ℕ → Parses Stmt
return_statement d = do
  k ← here
  _ ← expect (is classes.Return)
  e ← optional begins_expr (expr d)
  _ ← semicolon
  pure (stmts.Return k e)

-- "break" ";"
unfoldable pub break_statement : Parses Stmt
break_statement = do
  k ← here
  _ ← expect (is classes.Break)
  _ ← semicolon
  pure (stmts.Break k)

-- "continue" ";"
unfoldable pub continue_statement : Parses Stmt
continue_statement = do
  k ← here
  _ ← expect (is classes.Continue)
  _ ← semicolon
  pure (stmts.Continue k)

-- "disable" id ";"
unfoldable pub disable_statement : Parses Stmt
disable_statement = do
  k ← here
  _ ← expect (is classes.Disable)
  n ← name
  _ ← semicolon
  pure (stmts.Disable k n)

-- "(" number ")"
unfoldable pub status : Parses Number
status = do
  _ ← expect (is classes.OpenParen)
  n ← number
  _ ← expect (is classes.CloseParen)
  pure n

-- "$finish" ("(" number ")")? ";"
unfoldable pub finish_statement : Parses Stmt
finish_statement = do
  k ← here
  _ ← expect (is classes.Finish)
  n ← optional (is classes.OpenParen) status
  _ ← semicolon
  pure (stmts.Finish k n)

-- string ("," expr)*
unfoldable pub format : ℕ → Parses Format
format d = do
  t ← text
  es ← more_exprs d []
  pure (record { text = t; actuals = es })

-- "(" (string ("," expr)*)? ")" ";", behind what shows
unfoldable pub shown_actuals : ℕ → ℕ → ShowKind → Parses Stmt
shown_actuals d k w = do
  o ← here
  _ ← expect (is classes.OpenParen)
  f ← optional (is classes.Text) (format d)
  _ ← expect (is classes.CloseParen)
  _ ← semicolon
  pure (stmts.ShowActuals k w o f)

-- ";", behind what shows
unfoldable pub shown_alone : ℕ → ShowKind → Parses Stmt
shown_alone k w = do
  _ ← semicolon
  pure (stmts.Show k w)

unfoldable pub show_tail : ℕ → ℕ → ShowKind → Parses Stmt
show_tail d k w = choose (is classes.OpenParen) (shown_actuals d k w) (shown_alone k w)

-- ("$display" | "$write") ("(" (string ("," expr)*)? ")")? ";"
unfoldable pub show : ℕ → Parses Stmt
show d = do
  k ← here
  w ← token (λ t. show_of (class_at t))
  show_tail d k w

-- "void" "'" "(" call ")" ";", where the parentheses of the call open no level
unfoldable pub void_by : ℕ → Parses Stmt
void_by d = do
  k ← here
  _ ← expect (is classes.Void)
  _ ← expect (is classes.Tick)
  _ ← expect (is classes.OpenParen)
  c ← flat_call d
  _ ← expect (is classes.CloseParen)
  _ ← semicolon
  pure (stmts.Void k c)

-- ---- what begins with a name, behind that name

-- ";"
unfoldable pub name_tail : Name → Parses Stmt
name_tail n = do
  _ ← semicolon
  pure (stmts.Name n)

-- "(" (expr,+)? ")" ";", where each expr is read so
unfoldable pub call_tail : Name → Parses Expr → Parses Stmt
call_tail n e = do
  p ← actuals_by e
  _ ← semicolon
  pure (stmts.Call (roll-Call (record { name = n; token = p.0; actuals = p.1 })))

-- the rest of a change, and ";"
unfoldable pub changed_tail : ℕ → Name → Parses Stmt
changed_tail d n = do
  ss ← selects d
  c ← change_tail d (roll-Lvalue (record { name = n; selects = ss }))
  _ ← semicolon
  pure (stmts.Change c)

unfoldable pub behind_name : ℕ → Name → Parses Stmt
behind_name d n = choose (is classes.Semicolon) (name_tail n) (choose (is classes.OpenParen) (level (inside d) (call_tail n)) (changed_tail d n))

-- id ";" | call ";" | change ";"
unfoldable pub named : ℕ → Parses Stmt
named d = name >>= behind_name d

-- ---- statements that hold others, of which each is read so where this many levels are left

-- "(" expr ")"
unfoldable pub condition : ℕ → Parses Expr
condition d = do
  _ ← expect (is classes.OpenParen)
  e ← expr d
  _ ← expect (is classes.CloseParen)
  pure e

-- expr,+ | "default"
unfoldable pub item_values : ℕ → Parses (Option (List Expr))
item_values d = choose (is classes.Default) (expect (is classes.Default) >> pure None) (Some <$> exprs d)

-- which of the two a part behind an `if` is
abbrev pub sort : ElsePart → ElseIf ⊎ Else
sort (parts.ElseIf p) = inl p
sort (parts.Else e) = inr e

-- an `if` of its parts
abbrev pub if_of : ℕ → Expr → Stmt → List ElseIf → Option Else → Stmt
if_of k c b others last = stmts.If (roll-If (record { token = k; condition = c; body = b; others = others; last = last }))

module _ (d : ℕ) (s : Parses Stmt) where
  -- stmt*
  abbrev pub statements_by : Parses (List Stmt)
  statements_by = more begins_statement s []

  -- "begin" label? variables* stmt* "end" label?
  unfoldable pub block_by : Parses Stmt
  block_by = do
    k ← here
    _ ← expect (is classes.Begin)
    l ← optional_label
    vs ← declarations d
    ss ← statements_by
    _ ← expect (is classes.End)
    e ← optional_label
    pure (stmts.Block (roll-Block (record { token = k; label = l; variables = vs; statements = ss; end = e })))

  -- "if" "(" expr ")" stmt, behind an `else` of that number
  unfoldable pub else_if_tail : ℕ → Parses ElsePart
  else_if_tail k = do
    _ ← expect (is classes.If)
    c ← condition d
    b ← s
    pure (parts.ElseIf (roll-ElseIf (record { token = k; condition = c; body = b })))

  -- stmt, behind an `else` of that number
  unfoldable pub else_tail : ℕ → Parses ElsePart
  else_tail k = do
    b ← s
    pure (parts.Else (roll-Else (record { token = k; body = b })))

  -- "else" "if" "(" expr ")" stmt | "else" stmt
  unfoldable pub else_part : Parses ElsePart
  else_part = do
    k ← here
    _ ← expect (is classes.Else)
    choose (is classes.If) (else_if_tail k) (else_tail k)

  -- ("else" "if" "(" expr ")" stmt)* ("else" stmt)?
  abbrev pub else_parts : Parses (List ElseIf × Option Else)
  else_parts = branches (is classes.Else) (sort <$> else_part)

  -- ("else" "if" "(" expr ")" stmt)* ("else" stmt)?, behind an `if` of that number, its condition and its statement
  unfoldable pub if_end : ℕ → Expr → Stmt → Parses Stmt
  if_end k c b = do
    p ← else_parts
    pure (if_of k c b p.0 p.1)

  -- stmt ("else" "if" "(" expr ")" stmt)* ("else" stmt)?, behind an `if` of that number and its condition
  unfoldable pub if_tail : ℕ → Expr → Parses Stmt
  if_tail k c = do
    b ← s
    if_end k c b

  -- "if" "(" expr ")" stmt ("else" "if" "(" expr ")" stmt)* ("else" stmt)?
  unfoldable pub if_by : Parses Stmt
  if_by = do
    k ← here
    _ ← expect (is classes.If)
    c ← condition d
    if_tail k c

  -- (expr,+ | "default") ":" stmt
  unfoldable pub item : Parses CaseItem
  item = do
    k ← here
    vs ← item_values d
    _ ← expect (is classes.Colon)
    b ← s
    pure (roll-CaseItem (record { token = k; values = vs; body = b }))

  -- item*, behind those found so far
  abbrev pub more_items : List CaseItem → Parses (List CaseItem)
  more_items found = more begins_item item found

  -- item+
  unfoldable pub items : Parses (List CaseItem)
  items = item >>= λ i. more_items (i ∷ [])

  -- "case" "(" expr ")" item+ "endcase"
  unfoldable pub case_by : Parses Stmt
  case_by = do
    k ← here
    _ ← expect (is classes.Case)
    e ← condition d
    xs ← items
    _ ← expect (is classes.EndCase)
    pure (stmts.Case k e xs)

  -- "while" "(" expr ")" stmt
  unfoldable pub while_by : Parses Stmt
  while_by = do
    k ← here
    _ ← expect (is classes.While)
    e ← condition d
    b ← s
    pure (stmts.While k e b)

  -- "repeat" "(" expr ")" stmt
  unfoldable pub repeat_by : Parses Stmt
  repeat_by = do
    k ← here
    _ ← expect (is classes.Repeat)
    e ← condition d
    b ← s
    pure (stmts.Repeat k e b)

  -- "forever" stmt
  unfoldable pub forever_by : Parses Stmt
  forever_by = do
    k ← here
    _ ← expect (is classes.Forever)
    b ← s
    pure (stmts.Forever k b)

  -- expr ";" change ")" stmt, behind a `for` of that number and its start
  unfoldable pub for_tail : ℕ → Start → Parses Stmt
  for_tail k a = do
    e ← expr d
    _ ← semicolon
    c ← change d
    _ ← expect (is classes.CloseParen)
    b ← s
    pure (stmts.For k a e c b)

  -- "for" "(" start ";" expr ";" change ")" stmt
  unfoldable pub for_by : Parses Stmt
  for_by = do
    k ← here
    _ ← expect (is classes.For)
    _ ← expect (is classes.OpenParen)
    a ← start d
    _ ← semicolon
    for_tail k a

-- ---- statements, by their first token

-- how many levels are left one level further in, and what reads a statement there, where a level is left
abbrev pub Nested : Type 0
Nested = Option (ℕ × Parses Stmt)

-- "$finish" .. | "$display" .. | "$write" .. | "void" .. | what begins with a name
unfoldable pub task_or_named : ℕ → Nested → Parses Stmt
task_or_named d inner = choose (is classes.Finish) finish_statement (choose begins_show (show d) (choose (is classes.Void) (level inner (λ e. void_by e.0)) (named d)))

-- "return" .. | "break" .. | "continue" .. | "disable" .. | what isn't one of those
unfoldable pub jump_or_other : ℕ → Nested → Parses Stmt
jump_or_other d inner =
    choose (is classes.Return) (return_statement d) (choose (is classes.Break) break_statement (choose (is classes.Continue) continue_statement (choose (is classes.Disable) disable_statement (task_or_named d inner))))

-- "while" .. | "repeat" .. | "forever" .. | "for" .. | what isn't a loop
unfoldable pub loop_or_other : ℕ → Nested → Parses Stmt
loop_or_other d inner =
    choose (is classes.While) (level inner (λ e. while_by e.0 e.1)) (choose (is classes.Repeat) (level inner (λ e. repeat_by e.0 e.1))
    (choose (is classes.Forever) (level inner (λ e. forever_by e.0 e.1)) (choose (is classes.For) (level inner (λ e. for_by e.0 e.1)) (jump_or_other d inner))))

-- ";" | "begin" .. | "if" .. | "case" .. | what isn't one of those
unfoldable pub statement_in : ℕ → Nested → Parses Stmt
statement_in d inner =
    choose (is classes.Semicolon) empty (choose (is classes.Begin) (level inner (λ e. block_by e.0 e.1))
    (choose (is classes.If) (level inner (λ e. if_by e.0 e.1)) (choose (is classes.Case) (level inner (λ e. case_by e.0 e.1)) (loop_or_other d inner))))

-- what reads a statement inside, where this many levels are left
abbrev pub nested : ℕ → Nested
nested zero = None
nested (suc d) = Some (d, statement_in d (nested d))

-- stmt
abbrev pub statement : ℕ → Parses Stmt
statement d = statement_in d (nested d)

-- stmt*
abbrev pub statements : ℕ → Parses (List Stmt)
statements d = statements_by d (statement d)
