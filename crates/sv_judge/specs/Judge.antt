-- What an expression violates, and what it is.
use Rattle.std.specs.Prelude.{ℕ, ◌+◌, Bool, true, false, Option, Some, None, option_map, List, [], ◌∷◌, ◌++◌, map, flat_map, length}
use Rattle.dpi_rules.specs.declared.violation.Violation.{Violation}
use Rattle.dpi_chain.specs.Tree.{Link}
use Rattle.sv_tree.specs.declared.expr.Prefix.{Prefix}
use Rattle.sv_tree.specs.declared.expr.Expr.{Expr, fold-Expr}
use Rattle.sv_tree.specs.declared.expr.Choice.{Choice, fold-Choice}
use Rattle.sv_tree.specs.declared.expr.Chain.{Chain, fold-Chain}
use Rattle.sv_tree.specs.declared.expr.Term.{Term, fold-Term}
use Rattle.sv_tree.specs.declared.expr.Operand.{Operand as OperandTree, fold-Operand}
use Rattle.sv_tree.specs.declared.expr.Primary.{Primary, fold-Primary}
use Rattle.sv_tree.specs.declared.expr.Lvalue.{Lvalue, fold-Lvalue}
use Rattle.sv_tree.specs.declared.expr.Select.{Select, fold-Select}
use Rattle.sv_tree.specs.declared.expr.Call.{Call, fold-Call}
use Rattle.sv_tree.specs.declared.expr.Primary.TheOpen.{Primary-F, Select-F, Call-F, Chain-F, Choice-F, Expr-F, Lvalue-F, Operand-F, Term-F}
use Rattle.sv_names.specs.declared.entry.Entry.{Entry}
use Rattle.sv_names.specs.Uses.{value_violations, value_kind, call_violations, called}
use Rattle.sv_names.specs.declared.uses.Callee.{Callee}
use Rattle.sv_typing.specs.declared.types.Operand.{Operand}
use Rattle.sv_typing.specs.declared.operators.Binary.{Binary}
use Rattle.sv_typing.specs.declared.selects.Selected.{Selected}
use Rattle.sv_typing.specs.Judged.{Judged, behind}
use Rattle.sv_typing.specs.Literals.{number_operand, text_operand, null_operand}
use Rattle.sv_typing.specs.Prefixes.{prefixed}
use Rattle.sv_typing.specs.Chains.{chain_judged}
use Rattle.sv_typing.specs.Conditionals.{conditional}
use Rattle.sv_typing.specs.Concatenations.{concatenated, repeated, count_of, cast}
use Rattle.sv_typing.specs.Selects.{Narrowed, variable, read, indexed, ranged, sliced, part_size}
use Rattle.sv_judge.specs.declared.forms.Form.{Form}
use Rattle.sv_judge.specs.declared.forms.Form.TheVariants as forms
use Rattle.sv_judge.specs.declared.forms.Whole.{Whole}
use Rattle.sv_judge.specs.Forms.{other, number_form, joint, chain_form}
use Rattle.sv_judge.specs.Calls.{Env, passing_at, passed, callee_violations, result_of, call_value, if_clean}

-- what an expression violates, and the expression
pub record Seen : Type 0 where
  pub found : List Violation
  pub whole : Whole

-- an expression with its first token
pub record Actual : Type 0 where
  pub token : ℕ
  pub seen : Seen

abbrev pub judged_of : Seen → Judged
judged_of s = record { found = s.found; value = s.whole.value }

-- nothing is violated
abbrev pub clean : Operand → Form → Seen
clean o form = record { found = []; whole = record { value = Some o; form = form } }

-- nothing is violated so far
abbrev pub so_far : Whole → Seen
so_far w = record { found = []; whole = w }

-- it is no name and no number
abbrev pub seen_other : Judged → Seen
seen_other j = record { found = j.found; whole = other j.value }

-- prefixes before an operand, of which the last applies first
abbrev pub prefixes_judged : ℕ → List Prefix → Judged → Judged
prefixes_judged file [] j = j
prefixes_judged file (p ∷ ps) j =
    let inner = prefixes_judged file ps j in behind inner.found (prefixed file p.token p.operator inner.value)

-- an operand keeps its form without prefixes
abbrev pub with_prefixes : ℕ → List Prefix → Seen → Seen
with_prefixes file [] s = s
with_prefixes file (p ∷ ps) s = seen_other (prefixes_judged file (p ∷ ps) (judged_of s))

abbrev pub is_none_left : {A : Type 0} → List A → Bool
is_none_left [] = true
is_none_left (x ∷ xs) = false

-- what a select makes of what stands before it
abbrev pub Selects : Type 0
Selects = Option Selected → Narrowed

abbrev pub narrowed_behind : List Violation → Narrowed → Narrowed
narrowed_behind vs n = record { found = vs ++ n.found; value = n.value }

-- selects in turn
abbrev pub selected_by : List Selects → Selects
selected_by [] s = record { found = []; value = s }
selected_by (f ∷ fs) s = let n = f s in narrowed_behind n.found (selected_by fs n.value)

-- a name by its declaration, with its selects
abbrev pub place_selected : ℕ → ℕ → Option Entry → List Selects → Narrowed
place_selected file token entry fs =
    narrowed_behind (value_violations file token entry) (selected_by fs (option_map variable (value_kind entry)))

-- the actuals in turn, of which the first has this number
abbrev pub actuals_violations : Env → Option Callee → ℕ → List Actual → List Violation
actuals_violations env callee i [] = []
actuals_violations env callee i (a ∷ more) =
    (a.seen.found ++ passed env.file a.token (passing_at env callee i) a.seen.whole) ++ actuals_violations env callee (i + 1) more

-- a call of what is so declared
abbrev pub call_violated : Env → ℕ → Option Entry → Bool → List Actual → List Violation
call_violated env token entry statement actuals =
    (call_violations env.file token entry ++ callee_violations env token (called entry) (length actuals) statement)
    ++ actuals_violations env (called entry) 0 actuals

abbrev pub call_judged : Env → ℕ → Option Entry → Bool → List Actual → Judged
call_judged env token entry statement actuals =
    let vs = call_violated env token entry statement actuals in
    record { found = vs; value = if_clean vs (call_value (result_of env (called entry))) }

-- the parts of a concatenation, and what they make
abbrev pub parts_found : List Actual → List Violation
parts_found = flat_map (λ (a : Actual). a.seen.found)

abbrev pub chosen_by : ℕ → ℕ → Seen → Seen → Option Operand → Judged
chosen_by file token first second condition =
    behind (first.found ++ second.found) (conditional file token condition first.whole.value second.whole.value)

-- what a chain and what follows its `?` are
abbrev pub with_choice : Seen → Option (Option Operand → Judged) → Seen
with_choice c None = c
with_choice c (Some choice) = seen_other (behind c.found (choice c.whole.value))

-- a call, as a statement or in an expression
abbrev pub Calls : Type 0
Calls = Bool → Judged

-- a conditional, by its condition
abbrev pub Choices : Type 0
Choices = Option Operand → Judged

-- an operator and the operand behind it
abbrev pub Links : Type 0
Links = Link Binary Judged

module _ (env : Env) where
  abbrev pub primary_step : Primary-F Seen Selects Calls Seen Choices Actual Narrowed Seen Links → Seen
  primary_step (Primary-F.Number n) = clean (number_operand n.bytes) (number_form n.bytes)
  primary_step (Primary-F.Text t) = clean text_operand forms.Other
  primary_step (Primary-F.Null k) = clean null_operand forms.Other
  primary_step (Primary-F.Place l) = record { found = l.found; whole = record { value = read l.value; form = forms.Place l.value } }
  primary_step (Primary-F.Call c) = seen_other (c false)
  primary_step (Primary-F.Group k e) = seen_other (judged_of e.seen)
  primary_step (Primary-F.Concatenation k es) =
      seen_other (behind (parts_found es) (concatenated env.file k (map (λ (a : Actual). joint a.seen.whole) es)))
  primary_step (Primary-F.Repetition k n es) =
      seen_other (behind (parts_found es) (repeated env.file k (count_of n.bytes) (map (λ (a : Actual). joint a.seen.whole) es)))
  primary_step (Primary-F.Signed k e) = seen_other (behind e.seen.found (cast env.file k true e.seen.whole.value))
  primary_step (Primary-F.Unsigned k e) = seen_other (behind e.seen.found (cast env.file k false e.seen.whole.value))

  abbrev pub select_step : Select-F Seen Selects Calls Seen Choices Actual Narrowed Seen Links → Selects
  select_step (Select-F.Index k e) s = narrowed_behind e.seen.found (indexed env.file k s e.seen.whole.value)
  select_step (Select-F.Range k a b) s = ranged env.file k s a b
  select_step (Select-F.Up k e n) s = narrowed_behind e.seen.found (sliced env.file k s e.seen.whole.value (part_size n.bytes))
  select_step (Select-F.Down k e n) s = narrowed_behind e.seen.found (sliced env.file k s e.seen.whole.value (part_size n.bytes))

  abbrev pub call_step : Call-F Seen Selects Calls Seen Choices Actual Narrowed Seen Links → Calls
  call_step c statement = call_judged env c.name.token (env.calls c.name.bytes) statement c.actuals

  abbrev pub chain_step : Chain-F Seen Selects Calls Seen Choices Actual Narrowed Seen Links → Seen
  chain_step c =
      let j = chain_judged (judged_of c.first) c.rest in
      record { found = j.found; whole = record { value = j.value; form = chain_form c.first.whole.form (is_none_left c.rest) } }

  abbrev pub choice_step : Choice-F Seen Selects Calls Seen Choices Actual Narrowed Seen Links → Choices
  choice_step c = chosen_by env.file c.token c.yes.seen c.no.seen

  abbrev pub expr_step : Expr-F Seen Selects Calls Seen Choices Actual Narrowed Seen Links → Actual
  expr_step e = record { token = e.token; seen = with_choice e.chain e.choice }

  abbrev pub lvalue_step : Lvalue-F Seen Selects Calls Seen Choices Actual Narrowed Seen Links → Narrowed
  lvalue_step l = place_selected env.file l.name.token (env.values l.name.bytes) l.selects

  abbrev pub operand_step : Operand-F Seen Selects Calls Seen Choices Actual Narrowed Seen Links → Seen
  operand_step o = with_prefixes env.file o.prefixes o.primary

  abbrev pub term_step : Term-F Seen Selects Calls Seen Choices Actual Narrowed Seen Links → Links
  term_step t =
      record { operator = record { file = env.file; token = t.token; operator = t.operator }; operand = judged_of t.operand }

  -- an expression, with its first token
  abbrev pub actual : Expr → Actual
  actual = fold-Expr Seen Selects Calls Seen Choices Actual Narrowed Seen Links primary_step select_step call_step chain_step choice_step expr_step lvalue_step operand_step term_step

  -- a call, in an expression or as a statement
  abbrev pub call : Call → Calls
  call = fold-Call Seen Selects Calls Seen Choices Actual Narrowed Seen Links primary_step select_step call_step chain_step choice_step expr_step lvalue_step operand_step term_step

  -- a name with its selects
  abbrev pub lvalue : Lvalue → Narrowed
  lvalue = fold-Lvalue Seen Selects Calls Seen Choices Actual Narrowed Seen Links primary_step select_step call_step chain_step choice_step expr_step lvalue_step operand_step term_step

  -- the parts of an expression
  abbrev pub primary : Primary → Seen
  primary = fold-Primary Seen Selects Calls Seen Choices Actual Narrowed Seen Links primary_step select_step call_step chain_step choice_step expr_step lvalue_step operand_step term_step

  abbrev pub operand_seen : OperandTree → Seen
  operand_seen = fold-Operand Seen Selects Calls Seen Choices Actual Narrowed Seen Links primary_step select_step call_step chain_step choice_step expr_step lvalue_step operand_step term_step

  abbrev pub term : Term → Links
  term = fold-Term Seen Selects Calls Seen Choices Actual Narrowed Seen Links primary_step select_step call_step chain_step choice_step expr_step lvalue_step operand_step term_step

  abbrev pub chain : Chain → Seen
  chain = fold-Chain Seen Selects Calls Seen Choices Actual Narrowed Seen Links primary_step select_step call_step chain_step choice_step expr_step lvalue_step operand_step term_step

  abbrev pub choice : Choice → Choices
  choice = fold-Choice Seen Selects Calls Seen Choices Actual Narrowed Seen Links primary_step select_step call_step chain_step choice_step expr_step lvalue_step operand_step term_step

  abbrev pub select : Select → Selects
  select = fold-Select Seen Selects Calls Seen Choices Actual Narrowed Seen Links primary_step select_step call_step chain_step choice_step expr_step lvalue_step operand_step term_step

  -- what an expression violates, and the expression
  abbrev pub judge : Expr → Seen
  judge e = (actual e).seen
