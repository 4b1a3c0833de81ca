-- With which tokens an expression goes on: the kinds of trees.
use Rattle.std.proofs.Common.{◌≡◌, ℕ, Bool, false, ◌||◌, List, [], ◌∷◌, map, Option, Some, None, refl}
use Rattle.std.specs.Prelude.{option_map}
use Rattle.dpi_grammar.proofs.Exact.{Kind}
use Rattle.dpi_grammar.proofs.Rules.{never}
use Rattle.dpi_grammar.proofs.Many.{or_left, or_right, or_both, ends}
use Rattle.dpi_lex.specs.Words.{Word}
use Rattle.sv_tree.specs.declared.class.Class.TheVariants as classes
use Rattle.sv_tree.specs.declared.expr.Prefix.{Prefix}
use Rattle.sv_tree.specs.declared.expr.Expr.{Expr, roll-Expr, fold-Expr, fold-roll-Expr}
use Rattle.sv_tree.specs.declared.expr.Choice.{Choice, roll-Choice, fold-Choice, fold-roll-Choice}
use Rattle.sv_tree.specs.declared.expr.Chain.{Chain, roll-Chain, fold-Chain, fold-roll-Chain}
use Rattle.sv_tree.specs.declared.expr.Term.{Term, fold-Term}
use Rattle.sv_tree.specs.declared.expr.Operand.{Operand, roll-Operand, fold-Operand, fold-roll-Operand}
use Rattle.sv_tree.specs.declared.expr.Primary.{Primary, fold-Primary}
use Rattle.sv_tree.specs.declared.expr.Lvalue.{Lvalue, fold-Lvalue}
use Rattle.sv_tree.specs.declared.expr.Select.{Select}
use Rattle.sv_tree.specs.declared.expr.Primary.TheOpen.{Primary-F, Select-F, Call-F, Chain-F, Choice-F, Expr-F, Lvalue-F, Operand-F, Term-F}
use Rattle.sv_tree.specs.Classes.{is}
use Rattle.sv_tree.specs.Expressions.{expr_told, chain_told, choice_told, operand_told, term_told, primary_told, select_told, lvalue_told, prefix_told}
use Rattle.sv_expr.specs.Front.{begins_term}

-- the tokens that some expression goes on with
abbrev pub goes_on : Option Word → Bool
goes_on t = is classes.Question t || (begins_term t || (is classes.OpenBracket t || is classes.OpenParen t))

-- the tokens that one tree goes on with
pub record Goes : Type 0 where
  pub grabs : Option Word → Bool
  pub free : (t : Option Word) → goes_on t ≡ false → grabs t ≡ false

-- the tests one by one
abbrev at_bracket : Option Word → Bool
at_bracket t = is classes.OpenBracket t || is classes.OpenParen t

abbrev at_term : Option Word → Bool
at_term t = begins_term t || at_bracket t

pub no_question : (t : Option Word) → goes_on t ≡ false → is classes.Question t ≡ false
no_question t e = or_left (is classes.Question t) (at_term t) e

pub no_term : (t : Option Word) → goes_on t ≡ false → begins_term t ≡ false
no_term t e = or_left (begins_term t) (at_bracket t) (or_right (is classes.Question t) (at_term t) e)

brackets : (t : Option Word) → goes_on t ≡ false → at_bracket t ≡ false
brackets t e = or_right (begins_term t) (at_bracket t) (or_right (is classes.Question t) (at_term t) e)

pub no_bracket : (t : Option Word) → goes_on t ≡ false → is classes.OpenBracket t ≡ false
no_bracket t e = or_left (is classes.OpenBracket t) (is classes.OpenParen t) (brackets t e)

pub no_paren : (t : Option Word) → goes_on t ≡ false → is classes.OpenParen t ≡ false
no_paren t e = or_right (is classes.OpenBracket t) (is classes.OpenParen t) (brackets t e)

abbrev pub no_more : Goes
no_more = record { grabs = λ t. false; free = λ t e. refl }

pub ends_free : (prior : Option Word → Bool) (gs : List Goes) (t : Option Word) → goes_on t ≡ false → prior t ≡ false → ends prior (map (λ g. g.grabs) gs) t ≡ false
ends_free prior [] t e p = p
ends_free prior (g ∷ gs) t e p = ends_free g.grabs gs t e (g.free t e)

pub ends_never : (prior : Option Word → Bool) (gs : List Goes) (t : Option Word) → prior t ≡ false → ends prior (map (λ _. never) gs) t ≡ false
ends_never prior [] t p = p
ends_never prior (g ∷ gs) t p = ends_never never gs t refl

-- ---- productions, with what each part goes on with in its place

abbrev pub primary_goes : Primary-F Goes Goes Goes Goes Goes Goes Goes Goes Goes → Goes
primary_goes (Primary-F.Place l) = l
primary_goes _ = no_more

abbrev pub select_goes : Select-F Goes Goes Goes Goes Goes Goes Goes Goes Goes → Goes
select_goes s = no_more

abbrev pub call_goes : Call-F Goes Goes Goes Goes Goes Goes Goes Goes Goes → Goes
call_goes c = no_more

abbrev pub chain_goes : Chain-F Goes Goes Goes Goes Goes Goes Goes Goes Goes → Goes
chain_goes c = record {
  grabs = λ t. begins_term t || ends c.first.grabs (map (λ g. g.grabs) c.rest) t;
  free = λ t e. or_both _ _ (no_term t e) (ends_free c.first.grabs c.rest t e (c.first.free t e));
}

abbrev pub choice_goes : Choice-F Goes Goes Goes Goes Goes Goes Goes Goes Goes → Goes
choice_goes c = c.no

abbrev pub expr_goes_by : Goes → Option Goes → Goes
expr_goes_by c None = record { grabs = λ t. is classes.Question t || c.grabs t; free = λ t e. or_both _ _ (no_question t e) (c.free t e) }
expr_goes_by c (Some g) = g

abbrev pub expr_goes : Expr-F Goes Goes Goes Goes Goes Goes Goes Goes Goes → Goes
expr_goes e = expr_goes_by e.chain e.choice

-- a name that stands alone may be a call's
abbrev pub lvalue_goes : Lvalue-F Goes Goes Goes Goes Goes Goes Goes Goes Goes → Goes
lvalue_goes l = record {
  grabs = λ t. is classes.OpenBracket t || ends (is classes.OpenParen) (map (λ _. never) l.selects) t;
  free = λ t e. or_both _ _ (no_bracket t e) (ends_never (is classes.OpenParen) l.selects t (no_paren t e));
}

abbrev pub operand_goes : Operand-F Goes Goes Goes Goes Goes Goes Goes Goes Goes → Goes
operand_goes o = o.primary

abbrev pub term_goes : Term-F Goes Goes Goes Goes Goes Goes Goes Goes Goes → Goes
term_goes t = t.operand

abbrev pub primary_more : Primary → Goes
primary_more = fold-Primary Goes Goes Goes Goes Goes Goes Goes Goes Goes primary_goes select_goes call_goes chain_goes choice_goes expr_goes lvalue_goes operand_goes term_goes

abbrev pub chain_more : Chain → Goes
chain_more = fold-Chain Goes Goes Goes Goes Goes Goes Goes Goes Goes primary_goes select_goes call_goes chain_goes choice_goes expr_goes lvalue_goes operand_goes term_goes

abbrev pub choice_more : Choice → Goes
choice_more = fold-Choice Goes Goes Goes Goes Goes Goes Goes Goes Goes primary_goes select_goes call_goes chain_goes choice_goes expr_goes lvalue_goes operand_goes term_goes

abbrev pub expr_more : Expr → Goes
expr_more = fold-Expr Goes Goes Goes Goes Goes Goes Goes Goes Goes primary_goes select_goes call_goes chain_goes choice_goes expr_goes lvalue_goes operand_goes term_goes

abbrev pub lvalue_more : Lvalue → Goes
lvalue_more = fold-Lvalue Goes Goes Goes Goes Goes Goes Goes Goes Goes primary_goes select_goes call_goes chain_goes choice_goes expr_goes lvalue_goes operand_goes term_goes

abbrev pub operand_more : Operand → Goes
operand_more = fold-Operand Goes Goes Goes Goes Goes Goes Goes Goes Goes primary_goes select_goes call_goes chain_goes choice_goes expr_goes lvalue_goes operand_goes term_goes

abbrev pub term_more : Term → Goes
term_more = fold-Term Goes Goes Goes Goes Goes Goes Goes Goes Goes primary_goes select_goes call_goes chain_goes choice_goes expr_goes lvalue_goes operand_goes term_goes

-- ---- kinds

abbrev pub a_prefix : Kind Word Prefix
a_prefix = record { told = prefix_told; grabs = λ _ _. false }

abbrev pub a_primary : Kind Word Primary
a_primary = record { told = primary_told; grabs = λ p. (primary_more p).grabs }

abbrev pub a_select : Kind Word Select
a_select = record { told = select_told; grabs = λ _ _. false }

abbrev pub an_operand : Kind Word Operand
an_operand = record { told = operand_told; grabs = λ x. (operand_more x).grabs }

abbrev pub a_term : Kind Word Term
a_term = record { told = term_told; grabs = λ x. (term_more x).grabs }

abbrev pub a_chain : Kind Word Chain
a_chain = record { told = chain_told; grabs = λ c. (chain_more c).grabs }

abbrev pub a_choice : Kind Word Choice
a_choice = record { told = choice_told; grabs = λ c. (choice_more c).grabs }

abbrev pub an_expr : Kind Word Expr
an_expr = record { told = expr_told; grabs = λ e. (expr_more e).grabs }

-- what can be assigned to goes on with a `[` alone
abbrev pub an_lvalue : Kind Word Lvalue
an_lvalue = record { told = lvalue_told; grabs = λ _. is classes.OpenBracket }

-- ---- what each goes on with

pub expr_grabs_are : (k : ℕ) (c : Chain) (o : Option Choice) → expr_more (roll-Expr (record { token = k; chain = c; choice = o })) ≡ expr_goes_by (chain_more c) (option_map choice_more o)
expr_grabs_are k c None = fold-roll-Expr Goes Goes Goes Goes Goes Goes Goes Goes Goes primary_goes select_goes call_goes chain_goes choice_goes expr_goes lvalue_goes operand_goes term_goes _
expr_grabs_are k c (Some x) = fold-roll-Expr Goes Goes Goes Goes Goes Goes Goes Goes Goes primary_goes select_goes call_goes chain_goes choice_goes expr_goes lvalue_goes operand_goes term_goes _

pub choice_grabs_are : (k : ℕ) (x y : Expr) → choice_more (roll-Choice (record { token = k; yes = x; no = y })) ≡ expr_more y
choice_grabs_are k x y = fold-roll-Choice Goes Goes Goes Goes Goes Goes Goes Goes Goes primary_goes select_goes call_goes chain_goes choice_goes expr_goes lvalue_goes operand_goes term_goes _

pub chain_grabs_are : (k : ℕ) (x : Operand) (xs : List Term) → chain_more (roll-Chain (record { token = k; first = x; rest = xs })) ≡ chain_goes (record { token = k; first = operand_more x; rest = map term_more xs })
chain_grabs_are k x xs = fold-roll-Chain Goes Goes Goes Goes Goes Goes Goes Goes Goes primary_goes select_goes call_goes chain_goes choice_goes expr_goes lvalue_goes operand_goes term_goes _

pub operand_grabs_are : (k : ℕ) (us : List Prefix) (p : Primary) → operand_more (roll-Operand (record { token = k; prefixes = us; primary = p })) ≡ primary_more p
operand_grabs_are k us p = fold-roll-Operand Goes Goes Goes Goes Goes Goes Goes Goes Goes primary_goes select_goes call_goes chain_goes choice_goes expr_goes lvalue_goes operand_goes term_goes _
