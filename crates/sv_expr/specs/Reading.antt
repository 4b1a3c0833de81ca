-- The parsers of expressions, as functions.
use Rattle.std.specs.Prelude.{ℕ, zero, suc, List, [], ◌∷◌, Option, Some, None, if◌then◌else◌}
use Rattle.dpi_grammar.specs.Parser.{◌>>=◌, ◌>>◌, ◌<$>◌, pure, here, expect, token, optional, refuse, more, separated, listed, level, first}
use Rattle.sv_tree.specs.declared.class.Class.TheVariants as classes
use Rattle.sv_tree.specs.declared.leaves.Name.{Name}
use Rattle.sv_tree.specs.declared.leaves.Number.{Number}
use Rattle.sv_tree.specs.declared.leaves.Bound.{Bound}
use Rattle.sv_tree.specs.declared.expr.Prefix.{Prefix}
use Rattle.sv_tree.specs.declared.expr.Expr.{Expr, roll-Expr}
use Rattle.sv_tree.specs.declared.expr.Choice.{Choice, roll-Choice}
use Rattle.sv_tree.specs.declared.expr.Chain.{Chain, roll-Chain}
use Rattle.sv_tree.specs.declared.expr.Term.{Term, roll-Term}
use Rattle.sv_tree.specs.declared.expr.Operand.{Operand, roll-Operand}
use Rattle.sv_tree.specs.declared.expr.Primary.{Primary}
use Rattle.sv_tree.specs.declared.expr.Primary.TheVariants as forms
use Rattle.sv_tree.specs.declared.expr.Select.{Select}
use Rattle.sv_tree.specs.declared.expr.Select.TheVariants as select_forms
use Rattle.sv_tree.specs.declared.expr.Lvalue.{Lvalue, roll-Lvalue}
use Rattle.sv_tree.specs.declared.expr.Call.{Call, roll-Call}
use Rattle.sv_tree.specs.Classes.{class_at, is}
use Rattle.sv_tree.specs.Operators.{unary_of, binary_of}
use Rattle.sv_cursor.specs.Reading.{Parses, name, number, text, bound}
use Rattle.sv_expr.specs.declared.front.Front.{Front}
use Rattle.sv_expr.specs.declared.front.Front.TheVariants as fronts
use Rattle.sv_expr.specs.declared.front.Wrap.{Wrap}
use Rattle.sv_expr.specs.declared.front.Wrap.TheVariants as wraps
use Rattle.sv_expr.specs.Front.{front_of, begins_prefix, begins_term, begins_expr}
use Rattle.sv_expr.specs.Bounds.{bound_of, number_of}

-- ---- parts without an expression

abbrev pub comma : Parses (Unit {0})
comma = expect (is classes.Comma)

-- unop
unfoldable pub prefix : Parses Prefix
prefix = do
  k ← here
  o ← token (λ t. unary_of (class_at t))
  pure (record { token = k; operator = o })

-- unop*
abbrev pub prefixes : Parses (List Prefix)
prefixes = more begins_prefix prefix []

-- "null"
unfoldable pub null : Parses Primary
null = do
  k ← here
  _ ← expect (is classes.Null)
  pure (forms.Null k)

-- "(" behind what stands before it
abbrev pub opening : Wrap → Parses (Unit {0})
opening wraps.Group = expect (is classes.OpenParen)
opening wraps.Signed = expect (is classes.ToSigned) >> expect (is classes.OpenParen)
opening wraps.Unsigned = expect (is classes.ToUnsigned) >> expect (is classes.OpenParen)

abbrev pub wrapped : Wrap → ℕ → Expr → Primary
wrapped wraps.Group k x = forms.Group k x
wrapped wraps.Signed k x = forms.Signed k x
wrapped wraps.Unsigned k x = forms.Unsigned k x

unfoldable pub closing : Wrap → ℕ → Expr → Parses Primary
closing w k x = do
  _ ← expect (is classes.CloseParen)
  pure (wrapped w k x)

-- ---- the end of a select, by the token behind its expression

-- "]"
unfoldable pub index_tail : ℕ → Expr → Parses Select
index_tail k x = do
  _ ← expect (is classes.CloseBracket)
  pure (select_forms.Index k x)

-- "+:" number "]"
unfoldable pub up_tail : ℕ → Expr → Parses Select
up_tail k x = do
  _ ← expect (is classes.PlusColon)
  n ← number
  _ ← expect (is classes.CloseBracket)
  pure (select_forms.Up k x n)

-- "-:" number "]"
unfoldable pub down_tail : ℕ → Expr → Parses Select
down_tail k x = do
  _ ← expect (is classes.MinusColon)
  n ← number
  _ ← expect (is classes.CloseBracket)
  pure (select_forms.Down k x n)

-- ":" bound "]", behind a bound
abbrev pub range_behind : ℕ → Option Bound → Parses Select
range_behind k None = refuse
range_behind k (Some a) = do
  _ ← expect (is classes.Colon)
  b ← bound
  _ ← expect (is classes.CloseBracket)
  pure (select_forms.Range k a b)

unfoldable pub range_tail : ℕ → Expr → Parses Select
range_tail k x = range_behind k (bound_of x)

unfoldable pub select_tail : ℕ → Expr → Parses Select
select_tail k x = λ s.
    if is classes.CloseBracket (first s.rest) then index_tail k x s
    else if is classes.PlusColon (first s.rest) then up_tail k x s
    else if is classes.MinusColon (first s.rest) then down_tail k x s
    else range_tail k x s

-- ---- parts of an expression of a level

module _ (e : Parses Expr) where
  -- "," expr
  abbrev pub next_expr : Parses Expr
  next_expr = comma >> e

  -- ("," expr)*, behind those found so far
  abbrev pub more_exprs_by : List Expr → Parses (List Expr)
  more_exprs_by found = more (is classes.Comma) next_expr found

  -- expr,+
  abbrev pub exprs_by : Parses (List Expr)
  exprs_by = separated (is classes.Comma) e

  -- (expr,+)?
  abbrev pub listed_by : Parses (List Expr)
  listed_by = listed begins_expr (is classes.Comma) e

  -- "(" (expr,+)? ")", with the number of the "("
  unfoldable pub actuals_by : Parses (ℕ × List Expr)
  actuals_by = do
    k ← here
    _ ← expect (is classes.OpenParen)
    xs ← listed_by
    _ ← expect (is classes.CloseParen)
    pure (k, xs)

  -- "[" expr "]" | "[" bound ":" bound "]" | "[" expr ("+:" | "-:") number "]"
  unfoldable pub select_by : Parses Select
  select_by = do
    k ← here
    _ ← expect (is classes.OpenBracket)
    x ← e
    select_tail k x

  -- "{" expr,+ "}" "}", behind a number
  abbrev pub repetition_behind : ℕ → Option Number → Parses Primary
  repetition_behind k None = refuse
  repetition_behind k (Some n) = do
    _ ← expect (is classes.OpenBrace)
    xs ← exprs_by
    _ ← expect (is classes.CloseBrace)
    _ ← expect (is classes.CloseBrace)
    pure (forms.Repetition k n xs)

  unfoldable pub repetition_tail : ℕ → Expr → Parses Primary
  repetition_tail k x = repetition_behind k (number_of x)

  -- ("," expr)* "}"
  unfoldable pub concatenation_tail : ℕ → Expr → Parses Primary
  concatenation_tail k x = do
    xs ← more_exprs_by (x ∷ [])
    _ ← expect (is classes.CloseBrace)
    pure (forms.Concatenation k xs)

  unfoldable pub braces_tail : ℕ → Expr → Parses Primary
  braces_tail k x = λ s. if is classes.OpenBrace (first s.rest) then repetition_tail k x s else concatenation_tail k x s

  -- "{" expr,+ "}" | "{" number "{" expr,+ "}" "}"
  unfoldable pub braces_by : Parses Primary
  braces_by = do
    k ← here
    _ ← expect (is classes.OpenBrace)
    x ← e
    braces_tail k x

  -- "(" expr ")" | ("$signed" | "$unsigned") "(" expr ")"
  unfoldable pub wrap_by : Wrap → Parses Primary
  wrap_by w = do
    k ← here
    _ ← opening w
    x ← e
    closing w k x

  -- "?" expr ":" expr
  unfoldable pub choice_by : Parses Choice
  choice_by = do
    k ← here
    _ ← expect (is classes.Question)
    x ← e
    _ ← expect (is classes.Colon)
    y ← e
    pure (roll-Choice (record { token = k; yes = x; no = y }))

-- what reads an expression one level further in, where one is left
abbrev pub Inner : Type 0
Inner = Option (Parses Expr)

module _ (inner : Inner) where
  -- select*
  abbrev pub selects_in : Parses (List Select)
  selects_in = more (is classes.OpenBracket) (level inner select_by) []

  -- behind a name
  abbrev pub call_behind : Name → Parses Primary
  call_behind n = do
    p ← level inner actuals_by
    pure (forms.Call (roll-Call (record { name = n; token = p.0; actuals = p.1 })))

  abbrev pub place_behind : Name → Parses Primary
  place_behind n = do
    ss ← selects_in
    pure (forms.Place (roll-Lvalue (record { name = n; selects = ss })))

  unfoldable pub behind_name : Name → Parses Primary
  behind_name n = λ s. if is classes.OpenParen (first s.rest) then call_behind n s else place_behind n s

  -- id select* | call
  unfoldable pub named : Parses Primary
  named = name >>= behind_name

  abbrev pub primary_by : Front → Parses Primary
  primary_by fronts.Number = forms.Number <$> number
  primary_by fronts.Text = forms.Text <$> text
  primary_by fronts.Null = null
  primary_by fronts.Name = named
  primary_by (fronts.Wrapped w) = level inner (λ e. wrap_by e w)
  primary_by fronts.Braces = level inner braces_by
  primary_by fronts.Other = refuse

  unfoldable pub primary : Parses Primary
  primary = λ s. primary_by (front_of (class_at (first s.rest))) s

  -- unop* primary
  unfoldable pub operand : Parses Operand
  operand = do
    k ← here
    us ← prefixes
    p ← primary
    pure (roll-Operand (record { token = k; prefixes = us; primary = p }))

  -- binop operand
  unfoldable pub term : Parses Term
  term = do
    k ← here
    o ← token (λ t. binary_of (class_at t))
    x ← operand
    pure (roll-Term (record { token = k; operator = o; operand = x }))

  -- operand (binop operand)*
  unfoldable pub chain : Parses Chain
  chain = do
    k ← here
    x ← operand
    xs ← more begins_term term []
    pure (roll-Chain (record { token = k; first = x; rest = xs }))

  -- ("?" expr ":" expr)?
  abbrev pub choice_in : Parses (Option Choice)
  choice_in = optional (is classes.Question) (level inner choice_by)

  -- chain ("?" expr ":" expr)?
  unfoldable pub expr_in : Parses Expr
  expr_in = do
    k ← here
    c ← chain
    o ← choice_in
    pure (roll-Expr (record { token = k; chain = c; choice = o }))

-- what reads an expression inside, where this many levels are left
abbrev pub inside : ℕ → Inner
inside zero = None
inside (suc d) = Some (expr_in (inside d))

-- expr
abbrev pub expr : ℕ → Parses Expr
expr d = expr_in (inside d)

-- expr,+
abbrev pub exprs : ℕ → Parses (List Expr)
exprs d = exprs_by (expr d)

-- ("," expr)*, behind those found so far
abbrev pub more_exprs : ℕ → List Expr → Parses (List Expr)
more_exprs d = more_exprs_by (expr d)

-- ---- for statements

-- select*, behind a name
abbrev pub selects : ℕ → Parses (List Select)
selects d = selects_in (inside d)

-- id select*
unfoldable pub lvalue : ℕ → Parses Lvalue
lvalue d = do
  n ← name
  ss ← selects_in (inside d)
  pure (roll-Lvalue (record { name = n; selects = ss }))

-- "(" (expr,+)? ")" behind the name of a call, with the number of the "("
abbrev pub actuals : ℕ → Parses (ℕ × List Expr)
actuals d = level (inside d) actuals_by

-- a call whose parentheses open no level
unfoldable pub flat_call : ℕ → Parses Call
flat_call d = do
  n ← name
  p ← actuals_by (expr d)
  pure (roll-Call (record { name = n; token = p.0; actuals = p.1 }))
