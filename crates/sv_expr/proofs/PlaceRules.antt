-- The parsers of what begins with a name are exact.
use Rattle.std.proofs.Common.{◌≡◌, ℕ, Bool, true, false, ◌||◌, ◌⊎◌, List, [], ◌∷◌, map, Option, Some, None, Ok, if◌then◌else◌, refl, sym, ap, ◌∙◌, inl, inr}
use Rattle.dpi_grammar.specs.Told.{◌&◌, noted, between}
use Rattle.dpi_grammar.specs.Parser.{State, and_then, first, level}
use Rattle.dpi_grammar.proofs.Exact.{Kind, pair}
use Rattle.dpi_grammar.proofs.Forms.{Form, told_form, within}
use Rattle.dpi_grammar.proofs.Rules.{Rule, never, Inside, seq, mapped, told_as}
use Rattle.dpi_grammar.proofs.Many.{Apart, ends}
use Rattle.dpi_grammar.proofs.Choices.{either, sum}
use Rattle.dpi_lex.specs.Words.{Word}
use Rattle.sv_tree.specs.declared.class.Class.TheVariants as classes
use Rattle.sv_tree.specs.declared.leaves.Name.{Name}
use Rattle.sv_tree.specs.declared.expr.Expr.{Expr}
use Rattle.sv_tree.specs.declared.expr.Primary.{Primary}
use Rattle.sv_tree.specs.declared.expr.Primary.TheVariants as forms
use Rattle.sv_tree.specs.declared.expr.Lvalue.{Lvalue, out-Lvalue, roll-out-Lvalue, out-roll-Lvalue}
use Rattle.sv_tree.specs.declared.expr.Select.{Select}
use Rattle.sv_tree.specs.declared.expr.Call.{Call, out-Call, roll-out-Call, out-roll-Call}
use Rattle.sv_tree.specs.declared.expr.Choice.{Choice}
use Rattle.sv_tree.specs.declared.expr.Chain.{Chain}
use Rattle.sv_tree.specs.declared.expr.Term.{Term}
use Rattle.sv_tree.specs.declared.expr.Operand.{Operand}
use Rattle.sv_tree.specs.declared.expr.Primary.TheOpen.{Call-F}
use Rattle.sv_tree.specs.Expressions.{Tells, quoted, comma, name_told, expr_told}
use Rattle.sv_tree.specs.Classes.{is, word_of}
use Rattle.sv_tree.specs.Statements.{flat_call_told}
use Rattle.sv_cursor.proofs.Tokens.{word_is_not}
use Rattle.sv_cursor.proofs.LeafRules.{a_name, name_rule}
use Rattle.sv_expr.specs.Reading as spec
use Rattle.sv_expr.proofs.Goes.{a_primary, an_lvalue}
use Rattle.sv_expr.proofs.Trees.{lvalue, call, lvalue_tells, call_tells, primary_tells}
use Rattle.sv_expr.proofs.Frees.{primary_grabs_are, lvalue_grabs_are, place_grabs}
use Rattle.sv_expr.proofs.Alternatives.{same_rule, level_then, past_deeper}
use Rattle.sv_expr.proofs.PartRules.{Good, a_paren, some_actuals, actuals_by_rule, actuals_enter}
use Rattle.sv_expr.proofs.SelectRules.{some_selects, selects_in_rule}

-- ---- a name, and what follows it

-- a "(" goes on with a name alone
abbrev a_call_next : Option Word → Bool
a_call_next t = is classes.OpenParen t || never t

-- the actuals of a call, or selects
abbrev behind_name : Kind Word ((ℕ × List Expr) ⊎ List Select)
behind_name = sum (within some_actuals) (some_selects a_call_next)

-- id select* | id "(" (expr,+)? ")"
abbrev pub named : Kind Word (Name × ((ℕ × List Expr) ⊎ List Select))
named = pair a_name (λ _. behind_name)

abbrev called : Name → ℕ × List Expr → Primary
called n p = forms.Call (call n p.0 p.1)

abbrev placed : Name → List Select → Primary
placed n ss = forms.Place (lvalue n ss)

abbrev pub name_made : Name × ((ℕ × List Expr) ⊎ List Select) → Primary
name_made p = either (called p.0) (placed p.0) p.1

written_so : (inner : spec.Inner) (n : Name) (s : State Word) (b : Bool)
    → (if b then level inner (λ e s. and_then (spec.actuals_by e s) (λ p s. Ok (called n p, s))) s else and_then (spec.selects_in inner s) (λ ss s. Ok (placed n ss, s))) ≡ (if b then spec.call_behind inner n s else spec.place_behind inner n s)
written_so inner n s true = sym (level_then inner spec.actuals_by (λ p s. Ok (called n p, s)) s)
written_so inner n s false = refl

bracket_free : a_call_next (Some (word_of classes.OpenBracket)) ≡ false
bracket_free = ap (λ b. b || false) (word_is_not classes.OpenParen classes.OpenBracket refl refl)

behind_rule : (d : ℕ) (inner : spec.Inner) → Inside Good d inner → (n : Name) → Rule (Unit {0}) never behind_name (either (called n) (placed n)) d (spec.behind_name inner n)
unfolding spec.behind_name
behind_rule d inner h n =
    same_rule _ (λ s. written_so inner n s (is classes.OpenParen (first s.rest)))
    (past_deeper Good (is classes.OpenParen) never a_paren some_actuals (called n) (λ e s. and_then (spec.actuals_by e s) (λ p s. Ok (called n p, s))) (actuals_enter (called n))
    (some_selects a_call_next) (placed n) refl inner h
    (λ m. let k : Rule (Unit {0}) a_call_next (some_selects a_call_next) (λ ss. ss) 0 (spec.selects_in None) = selects_in_rule a_call_next bracket_free 0 None refl in k.closes m)
    (mapped (placed n) (selects_in_rule a_call_next bracket_free d inner h)))

pub named_rule : (d : ℕ) (inner : spec.Inner) → Inside Good d inner → Rule (Unit {0}) never named name_made d (spec.named inner)
unfolding spec.named
named_rule d inner h = seq (λ n. n) (λ n p. either (called n) (placed n) p) (spec.behind_name inner) (name_rule (λ t e. refl)) (behind_rule d inner h)

-- ---- what begins with a name is a primary

pub named_tells : (p : Name × ((ℕ × List Expr) ⊎ List Select)) → a_primary.told (name_made p) ≡ named.told p
named_tells (n, inl p) = primary_tells (called n p) _ (forms.outs-Call (call n p.0 p.1)) ∙ call_tells n p.0 p.1
named_tells (n, inr ss) = primary_tells (placed n ss) _ (forms.outs-Place (lvalue n ss)) ∙ lvalue_tells n ss

or_none : (a : Bool) → (a || false) ≡ a
or_none true = refl
or_none false = refl

ends_so : (ss : List Select) (t : Option Word) → ends (is classes.OpenParen) (map (λ _ _. false) ss) t ≡ ends a_call_next (map (λ _ _. false) ss) t
ends_so [] t = sym (or_none (is classes.OpenParen t))
ends_so (s ∷ ss) t = refl

named_grabs : (p : Name × ((ℕ × List Expr) ⊎ List Select)) (t : Option Word) → a_primary.grabs (name_made p) t ≡ named.grabs p t
named_grabs (n, inl p) t = primary_grabs_are (called n p) _ (forms.outs-Call (call n p.0 p.1)) t
named_grabs (n, inr ss) t =
    primary_grabs_are (placed n ss) _ (forms.outs-Place (lvalue n ss)) t ∙ lvalue_grabs_are (lvalue n ss) t
    ∙ ap (λ l. place_grabs l.selects t) (out-roll-Lvalue (record { name = n; selects = ss })) ∙ ap (λ b. is classes.OpenBracket t || b) (ends_so ss t)

pub named_form : Form named a_primary name_made
named_form = told_form named a_primary name_made named_tells named_grabs

-- ---- what can be assigned to

ends_none : (ss : List Select) (t : Option Word) → ends never (map (λ _ _. false) ss) t ≡ false
ends_none [] t = refl
ends_none (s ∷ ss) t = ends_none ss t

lvalue_grabs : (ss : List Select) (t : Option Word) → is classes.OpenBracket t ≡ (some_selects never).grabs ss t
lvalue_grabs ss t = sym (or_none (is classes.OpenBracket t)) ∙ ap (λ b. is classes.OpenBracket t || b) (sym (ends_none ss t))

abbrev lvalue_parts : Kind Word (Name × List Select)
lvalue_parts = pair a_name (λ _. some_selects never)

pub lvalue_by_rule : {live : Type 0} {before : Option Word → Bool} (d : ℕ) → Inside Good d (spec.inside d) → Apart (is classes.Name) before → Rule live before an_lvalue (λ x. x) d (spec.lvalue d)
unfolding spec.lvalue
lvalue_by_rule d h apart =
    told_as an_lvalue (λ (p : Name × List Select). lvalue p.0 p.1) (λ x. x) (λ p. lvalue_tells p.0 p.1) (λ p t. lvalue_grabs p.1 t) (λ l. (((out-Lvalue l).name, (out-Lvalue l).selects), roll-out-Lvalue l))
    (seq (λ n. n) (λ n ss. lvalue n ss) (λ n s. and_then (spec.selects_in (spec.inside d) s) (λ ss s. Ok (lvalue n ss, s))) (name_rule apart)
    (λ n. mapped (lvalue n) (selects_in_rule never refl d (spec.inside d) h)))

-- ---- a call without a level of its own

abbrev pub a_flat_call : Kind Word Call
a_flat_call = record { told = flat_call_told; grabs = λ _ _. false }

-- what the parts of a call tell
abbrev flat_told : Call-F Primary Select Call Chain Choice Expr Lvalue Operand Term → Tells
flat_told c = name_told c.name & noted c.token & quoted classes.OpenParen & between comma (map expr_told c.actuals) & quoted classes.CloseParen

abbrev flat_parts : Kind Word (Name × (ℕ × List Expr))
flat_parts = pair a_name (λ _. some_actuals)

flat_tells : (p : Name × (ℕ × List Expr)) → flat_call_told (call p.0 p.1.0 p.1.1) ≡ flat_parts.told p
flat_tells p = ap flat_told (out-roll-Call (record { name = p.0; token = p.1.0; actuals = p.1.1 }))

pub flat_call_by_rule : {live : Type 0} {before : Option Word → Bool} (d : ℕ) → Good live d (spec.expr d) → Apart (is classes.Name) before → Rule live before a_flat_call (λ x. x) d (spec.flat_call d)
unfolding spec.flat_call
flat_call_by_rule d good apart =
    told_as a_flat_call (λ (p : Name × (ℕ × List Expr)). call p.0 p.1.0 p.1.1) (λ x. x) flat_tells (λ p t. refl) (λ c. (((out-Call c).name, ((out-Call c).token, (out-Call c).actuals)), roll-out-Call c))
    (seq (λ n. n) (λ n p. call n p.0 p.1) (λ n s. and_then (spec.actuals_by (spec.expr d) s) (λ p s. Ok (call n p.0 p.1, s))) (name_rule apart)
    (λ n. mapped (λ p. call n p.0 p.1) (actuals_by_rule good)))
