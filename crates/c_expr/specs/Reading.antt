-- The parsers of expressions, as functions.
use Rattle.std.proofs.Common.{inl, inr}
use Rattle.std.specs.Prelude.{ℕ, zero, suc, ◌⊎◌, List, [], Option, Some, None}
use Rattle.dpi_grammar.specs.Parser.{◌>>=◌, ◌>>◌, ◌<$>◌, pure, here, expect, token, optional, more, separated, listed, level}
use Rattle.dpi_grammar.specs.Choices.{choose, opened, leading}
use Rattle.c_tree.specs.declared.class.Class.TheVariants as classes
use Rattle.c_tree.specs.declared.leaves.Name.{Name}
use Rattle.c_tree.specs.declared.expr.Prefix.{Prefix}
use Rattle.c_tree.specs.declared.expr.Prefix.TheVariants as prefixes
use Rattle.c_tree.specs.declared.expr.CExpr.{CExpr, roll-CExpr}
use Rattle.c_tree.specs.declared.expr.Assignment.{Assignment, roll-Assignment}
use Rattle.c_tree.specs.declared.expr.Cond.{Cond, roll-Cond}
use Rattle.c_tree.specs.declared.expr.Choice.{Choice, roll-Choice}
use Rattle.c_tree.specs.declared.expr.Chain.{Chain, roll-Chain}
use Rattle.c_tree.specs.declared.expr.Term.{Term, roll-Term}
use Rattle.c_tree.specs.declared.expr.Operand.{Operand, roll-Operand}
use Rattle.c_tree.specs.declared.expr.Primary.{Primary}
use Rattle.c_tree.specs.declared.expr.Primary.TheVariants as forms
use Rattle.c_tree.specs.declared.expr.Suffix.{Suffix}
use Rattle.c_tree.specs.declared.expr.Suffix.TheVariants as suffix_forms
use Rattle.c_tree.specs.Classes.{class_at, is}
use Rattle.c_tree.specs.Operators.{unary_of, binary_of, assign_of}
use Rattle.c_cursor.specs.Reading.{Parses, name, number, character, text}
use Rattle.c_types.specs.Reading.{begins_type, type_name, stars}
use Rattle.c_expr.specs.declared.lead.Lead.{Lead}
use Rattle.c_expr.specs.declared.lead.Lead.TheVariants as leads
use Rattle.c_expr.specs.Front.{begins_lead, begins_term, begins_assignment, begins_suffix, begins_expr}

-- ---- parts without an expression

-- unop
unfoldable pub sign : Parses Lead
sign = do
  k ← here
  o ← token (λ t. unary_of (class_at t))
  pure (leads.Prefix (prefixes.Sign k o))

-- type stars ")", behind the "(" of that number
unfoldable pub cast : ℕ → Parses Lead
cast k = do
  t ← type_name
  ss ← stars
  _ ← expect (is classes.CloseParen)
  pure (leads.Prefix (prefixes.Cast k t ss))

-- "NULL"
unfoldable pub null : Parses Primary
null = do
  k ← here
  _ ← expect (is classes.Null)
  pure (forms.Null k)

-- string | "NULL"
unfoldable pub text_or_null : Parses Primary
text_or_null = choose (is classes.Text) (forms.Text <$> text) null

-- number | character | string | "NULL"
unfoldable pub literal : Parses Primary
literal = choose (is classes.Number) (forms.Number <$> number) (choose (is classes.Character) (forms.Character <$> character) text_or_null)

-- "." id
unfoldable pub member : Parses Suffix
member = do
  k ← here
  _ ← expect (is classes.Dot)
  n ← name
  pure (suffix_forms.Member k n)

-- "->" id
unfoldable pub arrow : Parses Suffix
arrow = do
  k ← here
  _ ← expect (is classes.Arrow)
  n ← name
  pure (suffix_forms.Arrow k n)

-- "++"
unfoldable pub increment : Parses Suffix
increment = do
  k ← here
  _ ← expect (is classes.Increment)
  pure (suffix_forms.Increment k)

-- "--"
unfoldable pub decrement : Parses Suffix
decrement = do
  k ← here
  _ ← expect (is classes.Decrement)
  pure (suffix_forms.Decrement k)

-- "++" | "--"
unfoldable pub stepped : Parses Suffix
stepped = choose (is classes.Increment) increment decrement

-- "." id | "->" id | "++" | "--"
unfoldable pub flat_suffix : Parses Suffix
flat_suffix = choose (is classes.Dot) member (choose (is classes.Arrow) arrow stepped)

-- ---- parts of an expression of a level

-- what reads expressions of a level, and conditionals
pub record Readers : Type 0 where
  pub expr : Parses CExpr
  pub cond : Parses Cond

module _ (e : Readers) where
  -- "," expr
  abbrev pub next_expr : Parses CExpr
  next_expr = expect (is classes.Comma) >> e.expr

  -- expr,+
  abbrev pub exprs_by : Parses (List CExpr)
  exprs_by = separated (is classes.Comma) e.expr

  -- (expr,+)?
  abbrev pub listed_by : Parses (List CExpr)
  listed_by = listed begins_expr (is classes.Comma) e.expr

  -- "(" (expr,+)? ")", with the number of the "("
  unfoldable pub arguments_by : Parses (ℕ × List CExpr)
  arguments_by = do
    k ← here
    _ ← expect (is classes.OpenParen)
    xs ← listed_by
    _ ← expect (is classes.CloseParen)
    pure (k, xs)

  -- "[" expr "]"
  unfoldable pub index_by : Parses Suffix
  index_by = do
    k ← here
    _ ← expect (is classes.OpenBracket)
    x ← e.expr
    _ ← expect (is classes.CloseBracket)
    pure (suffix_forms.Index k x)

  -- "?" expr ":" cond
  unfoldable pub choice_by : Parses Choice
  choice_by = do
    k ← here
    _ ← expect (is classes.Question)
    x ← e.expr
    _ ← expect (is classes.Colon)
    y ← e.cond
    pure (roll-Choice (record { token = k; yes = x; no = y }))

-- expr ")", behind the "(" of that number
unfoldable pub group : ℕ → Readers → Parses Lead
group k e = do
  x ← e.expr
  _ ← expect (is classes.CloseParen)
  pure (leads.Whole (forms.Group k x))

-- a name, or a call where arguments follow it
abbrev pub named_by : Name → Option (ℕ × List CExpr) → Primary
named_by n None = forms.Name n
named_by n (Some p) = forms.Call n p.0 p.1

-- a prefix, or a primary in parentheses
abbrev pub sort : Lead → Prefix ⊎ Primary
sort (leads.Prefix p) = inl p
sort (leads.Whole p) = inr p

-- what reads expressions one level further in, where one is left
abbrev pub Inner : Type 0
Inner = Option Readers

module _ (inner : Inner) where
  -- "(" type stars ")" | "(" expr ")"
  abbrev pub bracket : Parses Lead
  bracket = opened (is classes.OpenParen) begins_type begins_expr cast group inner

  -- unop | "(" type stars ")" | "(" expr ")"
  unfoldable pub lead : Parses Lead
  lead = choose (is classes.OpenParen) bracket sign

  -- ("(" (expr,+)? ")")?
  abbrev pub arguments_in : Parses (Option (ℕ × List CExpr))
  arguments_in = optional (is classes.OpenParen) (level inner arguments_by)

  -- id | id "(" (expr,+)? ")"
  unfoldable pub named : Parses Primary
  named = do
    n ← name
    p ← arguments_in
    pure (named_by n p)

  -- number | character | string | "NULL" | id | id "(" (expr,+)? ")"
  unfoldable pub plain : Parses Primary
  plain = choose (is classes.Name) named literal

  -- (unop | "(" type stars ")")* primary
  abbrev pub led : Parses (List Prefix × Primary)
  led = leading begins_lead (sort <$> lead) plain

  -- "[" expr "]" | "." id | "->" id | "++" | "--"
  unfoldable pub suffix : Parses Suffix
  suffix = choose (is classes.OpenBracket) (level inner index_by) flat_suffix

  abbrev pub suffixes : Parses (List Suffix)
  suffixes = more begins_suffix suffix []

  -- (unop | "(" type stars ")")* primary ("[" expr "]" | "." id | "->" id | "++" | "--")*
  unfoldable pub operand : Parses Operand
  operand = do
    k ← here
    p ← led
    ss ← suffixes
    pure (roll-Operand (record { token = k; prefixes = p.0; primary = p.1; suffixes = ss }))

  -- binop cast
  unfoldable pub term : Parses Term
  term = do
    k ← here
    o ← token (λ t. binary_of (class_at t))
    x ← operand
    pure (roll-Term (record { token = k; operator = o; operand = x }))

  -- cast (binop cast)*
  unfoldable pub chain : Parses Chain
  chain = do
    k ← here
    x ← operand
    xs ← more begins_term term []
    pure (roll-Chain (record { token = k; first = x; rest = xs }))

  -- ("?" expr ":" cond)?
  abbrev pub choice_in : Parses (Option Choice)
  choice_in = optional (is classes.Question) (level inner choice_by)

  -- chain ("?" expr ":" cond)?
  unfoldable pub cond_in : Parses Cond
  cond_in = do
    k ← here
    c ← chain
    o ← choice_in
    pure (roll-Cond (record { token = k; chain = c; choice = o }))

  -- assignop cond
  unfoldable pub assignment : Parses Assignment
  assignment = do
    k ← here
    o ← token (λ t. assign_of (class_at t))
    x ← cond_in
    pure (roll-Assignment (record { token = k; operator = o; value = x }))

  -- cond (assignop cond)*
  unfoldable pub expr_in : Parses CExpr
  expr_in = do
    k ← here
    x ← cond_in
    xs ← more begins_assignment assignment []
    pure (roll-CExpr (record { token = k; first = x; rest = xs }))

  abbrev pub readers_in : Readers
  readers_in = record { expr = expr_in; cond = cond_in }

-- what reads expressions inside, where this many levels are left
abbrev pub inside : ℕ → Inner
inside zero = None
inside (suc d) = Some (readers_in (inside d))

-- what reads expressions, where this many levels are left inside
abbrev pub readers : ℕ → Readers
readers d = readers_in (inside d)

-- expr
abbrev pub expr : ℕ → Parses CExpr
expr d = expr_in (inside d)

-- cond
abbrev pub cond : ℕ → Parses Cond
cond d = cond_in (inside d)

-- expr,+
abbrev pub exprs : ℕ → Parses (List CExpr)
exprs d = exprs_by (readers d)

-- (expr,+)?
abbrev pub listed_exprs : ℕ → Parses (List CExpr)
listed_exprs d = listed_by (readers d)
