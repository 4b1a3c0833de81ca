-- Parts of an expression that hold none, and parts around the expressions of one level: prefixes, lists, actuals, parentheses.
use Rattle.std.proofs.Common.{◌≡◌, ℕ, Bool, true, false, List, [], ◌∷◌, ◌++◌, map, Option, Some, None, Ok, refl, ap, ◌∙◌}
use denote.Enum.Bare.{sameb}
use Rattle.dpi_grammar.specs.Told.{◌&◌, noted, between}
use Rattle.dpi_grammar.specs.Parser.{and_then, expect, refuse, token}
use Rattle.dpi_grammar.proofs.Exact.{Kind, pair}
use Rattle.dpi_grammar.proofs.Rules.{Rule, never, seq, mapped, told_as, numbered, place, token_then, last, one, behind, expected, plainly, dead}
use Rattle.dpi_grammar.proofs.Many.{Apart, Repeats, or_both, put_apart, list, many, commas, commas_repeat, separate, a_list, lists}
use Rattle.dpi_grammar.proofs.Choices.{Enters}
use Rattle.dpi_lex.specs.Words.{Word}
use Rattle.sv_tree.specs.contracts.class.Class.{the_type}
use Rattle.sv_tree.specs.declared.class.Class.{Class}
use Rattle.sv_tree.specs.declared.class.Class.TheVariants as classes
use Rattle.sv_tree.specs.declared.operators.UnaryOperator.{UnaryOperator}
use Rattle.sv_tree.specs.declared.operators.UnaryOperator.TheVariants as unary
use Rattle.sv_tree.specs.declared.expr.Prefix.{Prefix}
use Rattle.sv_tree.specs.declared.expr.Expr.{Expr}
use Rattle.sv_tree.specs.Operators.{unary_class, unary_of}
use Rattle.sv_tree.specs.Classes.{class_at, is_class, is, word_of}
use Rattle.sv_tree.specs.Expressions.{quoted, comma, expr_told}
use Rattle.sv_tree.proofs.ClassLemmas.{is_fixed, knows}
use Rattle.sv_cursor.specs.Reading.{Parses}
use Rattle.sv_cursor.proofs.Tokens.{word_is_not, class_at_word}
use Rattle.sv_expr.specs.declared.front.Wrap.{Wrap}
use Rattle.sv_expr.specs.declared.front.Wrap.TheVariants as wraps
use Rattle.sv_expr.specs.Front.{is_start, begins_prefix, begins_expr}
use Rattle.sv_expr.specs.Reading as spec
use Rattle.sv_expr.proofs.Goes.{a_prefix, an_expr}
use Rattle.sv_expr.proofs.Operators.{unary_reader}
use Rattle.sv_expr.proofs.Starts.{prefix_starts, expr_starts, expr_viable}
use Rattle.sv_expr.proofs.Frees.{stops, expr_stops, ends_of}

-- ---- prefixes

abbrev make_prefix : ℕ → UnaryOperator → Prefix
make_prefix k o = record { token = k; operator = o }

prefix_rule : {live : Type 0} {d : ℕ} → Rule live never a_prefix (λ x. x) d spec.prefix
unfolding spec.prefix
prefix_rule = told_as a_prefix (λ (p : ℕ × UnaryOperator). make_prefix p.0 p.1) (λ x. x) (λ p. refl) (λ p t. refl) (λ u. ((u.token, u.operator), refl))
    (numbered make_prefix (λ k s. and_then (token (λ t. unary_of (class_at t)) s) (λ o s. Ok (make_prefix k o, s)))
    (λ k. mapped (make_prefix k) (plainly (λ t. unary_of (class_at t)) (λ u. word_of (unary_class u)) unary_reader (λ u. refl) unary.Plus)))

prefixes_repeat : Repeats begins_prefix a_prefix
prefixes_repeat = record { starts = prefix_starts; next = λ x t e. refl; at_end = refl }

abbrev pub some_prefixes : Kind Word (List Prefix)
some_prefixes = list begins_prefix a_prefix never

pub prefixes_rule : {live : Type 0} {d : ℕ} → Rule live never some_prefixes (λ us. us) d spec.prefixes
prefixes_rule = many begins_prefix never prefixes_repeat (λ t e. refl) [] prefix_rule

-- ---- lists

abbrev pub a_comma : Word
a_comma = word_of classes.Comma

abbrev pub some_exprs : Kind Word (List Expr)
some_exprs = commas (is classes.Comma) a_comma an_expr

-- each behind a comma
abbrev pub more_exprs : (Option Word → Bool) → Kind Word (List Expr)
more_exprs prior = list (is classes.Comma) (behind a_comma an_expr) prior

abbrev pub exprs_or_none : (Option Word → Bool) → Kind Word (List Expr)
exprs_or_none prior = a_list begins_expr (is classes.Comma) a_comma an_expr prior

-- no expression goes on with a comma
comma_free : (x : Expr) → an_expr.grabs x (Some a_comma) ≡ false
comma_free = expr_stops classes.Comma refl refl

no_comma_at_end : is classes.Comma None ≡ false
unfolding is_class
no_comma_at_end = refl

pub exprs_stop : (c : Class) → is_fixed c ≡ true → stops c ≡ false → sameb the_type classes.Comma c ≡ false → (xs : List Expr) → some_exprs.grabs xs (Some (word_of c)) ≡ false
exprs_stop c fixed stop other [] = refl
exprs_stop c fixed stop other (x ∷ xs) =
    or_both _ _ (word_is_not classes.Comma c fixed other) (ends_of an_expr (an_expr.grabs x) xs (Some (word_of c)) (expr_stops c fixed stop x) (expr_stops c fixed stop))

pub more_stop : (prior : Option Word → Bool) (c : Class) → is_fixed c ≡ true → stops c ≡ false → sameb the_type classes.Comma c ≡ false → prior (Some (word_of c)) ≡ false
    → (xs : List Expr) → (more_exprs prior).grabs xs (Some (word_of c)) ≡ false
more_stop prior c fixed stop other free xs = or_both _ _ (word_is_not classes.Comma c fixed other) (ends_of (behind a_comma an_expr) prior xs (Some (word_of c)) free (expr_stops c fixed stop))

-- nothing begins an expression with the word of this class
abbrev pub starts_none : Class → Bool
starts_none c = is_start (Some c)

pub listed_stop : (prior : Option Word → Bool) (c : Class) → is_fixed c ≡ true → starts_none c ≡ false → stops c ≡ false → sameb the_type classes.Comma c ≡ false → prior (Some (word_of c)) ≡ false
    → (xs : List Expr) → (exprs_or_none prior).grabs xs (Some (word_of c)) ≡ false
listed_stop prior c fixed none stop other free [] = or_both _ _ (ap is_start (class_at_word c fixed) ∙ none) free
listed_stop prior c fixed none stop other free (x ∷ xs) = exprs_stop c fixed stop other (x ∷ xs)

-- ---- what reads an expression

-- it is exact, where this many levels are left
abbrev pub Good : Type 0 → ℕ → Parses Expr → Type 0
Good live d e = Rule live never an_expr (λ x. x) d e

pub no_expr : (d : ℕ) → Good ⊥ d refuse
no_expr d = dead (expr_viable d)

-- ---- "(" (expr,+)? ")"

abbrev pub a_paren : Word
a_paren = word_of classes.OpenParen

abbrev pub some_actuals : Kind Word (ℕ × List Expr)
some_actuals = record { told = λ p. noted p.0 & quoted classes.OpenParen & between comma (map expr_told p.1) & quoted classes.CloseParen; grabs = λ _ _. false }

-- ---- "(" behind what stands before it

abbrev pub an_opening : Wrap → Kind Word (Unit {0})
an_opening wraps.Group = one a_paren
an_opening wraps.Signed = behind (word_of classes.ToSigned) (one a_paren)
an_opening wraps.Unsigned = behind (word_of classes.ToUnsigned) (one a_paren)

opening_free : (w : Wrap) (u : Unit {0}) → Apart begins_expr ((an_opening w).grabs u)
opening_free wraps.Group u t e = refl
opening_free wraps.Signed u t e = refl
opening_free wraps.Unsigned u t e = refl

opening_rule : {live : Type 0} {d : ℕ} (w : Wrap) → Rule live never (an_opening w) (λ u. u) d (spec.opening w)
opening_rule wraps.Group = expected (is classes.OpenParen) a_paren (knows classes.OpenParen refl) refl
opening_rule wraps.Signed = token_then (is classes.ToSigned) (word_of classes.ToSigned) (knows classes.ToSigned refl) refl (expected (is classes.OpenParen) a_paren (knows classes.OpenParen refl) refl)
opening_rule wraps.Unsigned = token_then (is classes.ToUnsigned) (word_of classes.ToUnsigned) (knows classes.ToUnsigned refl) refl (expected (is classes.OpenParen) a_paren (knows classes.OpenParen refl) refl)

-- "(" expr ")", with the number of its first token
abbrev pub a_wrap : Wrap → Kind Word (ℕ × (Unit {0} × (Expr × Unit {0})))
a_wrap w = pair (place never) (λ _. pair (an_opening w) (λ _. pair an_expr (λ _. one (word_of classes.CloseParen))))

-- ---- the parts of one level

module _ {live : Type 0} {d : ℕ} {e : Parses Expr} (good : Good live d e) where
  pub put_expr : (before : Option Word → Bool) → Apart begins_expr before → Rule live before an_expr (λ x. x) d e
  put_expr before apart = put_apart begins_expr before expr_starts apart good

  pub exprs_by_rule : (before : Option Word → Bool) → Apart begins_expr before → Rule live before some_exprs (λ xs. xs) d (spec.exprs_by e)
  exprs_by_rule before apart = separate (is classes.Comma) a_comma (knows classes.Comma refl) no_comma_at_end comma_free good (put_expr before apart)

  next_rule : Rule live never (behind a_comma an_expr) (λ x. x) d (spec.next_expr e)
  next_rule = token_then (is classes.Comma) a_comma (knows classes.Comma refl) refl good

  pub more_exprs_by_rule : (prior : Option Word → Bool) → Apart (is classes.Comma) prior → (found : List Expr) → Rule live prior (more_exprs prior) (λ xs. found ++ xs) d (spec.more_exprs_by e found)
  more_exprs_by_rule prior apart found = many (is classes.Comma) prior (commas_repeat (is classes.Comma) a_comma an_expr (knows classes.Comma refl) no_comma_at_end comma_free) apart found next_rule

  pub listed_by_rule : (prior : Option Word → Bool) → Apart begins_expr prior → Rule live prior (exprs_or_none prior) (λ xs. xs) d (spec.listed_by e)
  listed_by_rule prior apart = lists begins_expr (is classes.Comma) prior a_comma (knows classes.Comma refl) no_comma_at_end comma_free expr_starts apart good

  pub actuals_by_rule : Rule live never some_actuals (λ p. p) d (spec.actuals_by e)
  unfolding spec.actuals_by
  actuals_by_rule =
      told_as some_actuals (λ (p : ℕ × (List Expr × Unit {0})). (p.0, p.1.0)) (λ p. p) (λ p. refl) (λ p t. refl) (λ p. ((p.0, (p.1, tt)), refl))
      (numbered (λ k p. (k, p.0)) (λ k s. and_then (expect (is classes.OpenParen) s) (λ _ s. and_then (spec.listed_by e s) (λ xs s. and_then (expect (is classes.CloseParen) s) (λ _ s. Ok ((k, xs), s)))))
      (λ k. token_then (is classes.OpenParen) a_paren (knows classes.OpenParen refl) refl
      (seq (λ xs. xs) (λ xs _. (k, xs)) (λ xs s. and_then (expect (is classes.CloseParen) s) (λ _ s. Ok ((k, xs), s))) (listed_by_rule never (λ t e. refl))
      (λ xs. last (is classes.CloseParen) (word_of classes.CloseParen) (k, xs) (knows classes.CloseParen refl) (listed_stop never classes.CloseParen refl refl refl refl refl xs)))))

  pub wrap_by_rule : (w : Wrap) → Rule live never (a_wrap w) (λ p. spec.wrapped w p.0 p.1.1.0) d (spec.wrap_by e w)
  unfolding spec.wrap_by spec.closing
  wrap_by_rule w =
      numbered (λ k p. spec.wrapped w k p.1.0) (λ k s. and_then (spec.opening w s) (λ _ s. and_then (e s) (λ x. spec.closing w k x)))
      (λ k. seq (λ u. u) (λ u p. spec.wrapped w k p.0) (λ _ s. and_then (e s) (λ x. spec.closing w k x)) (opening_rule w)
      (λ u. seq (λ x. x) (λ x _. spec.wrapped w k x) (λ x. spec.closing w k x) (put_expr ((an_opening w).grabs u) (opening_free w u))
      (λ x. last (is classes.CloseParen) (word_of classes.CloseParen) (spec.wrapped w k x) (knows classes.CloseParen refl) (expr_stops classes.CloseParen refl refl x))))

-- the actuals of a call begin with their "("
pub actuals_enter : {Z : Type 0} (f : ℕ × List Expr → Z) → Enters Good (is classes.OpenParen) a_paren some_actuals f (λ e s. and_then (spec.actuals_by e s) (λ p s. Ok (f p, s)))
actuals_enter f = record {
  rule = λ live m e good. mapped f (actuals_by_rule good);
  some = refuse;
  dead = no_expr;
  knows = knows classes.OpenParen refl;
  starts = λ n p r h. refl;
}
