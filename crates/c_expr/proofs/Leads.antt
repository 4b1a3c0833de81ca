-- The parser of what stands before an operand is exact: an operator, a cast, or an expression in parentheses.
use Rattle.std.proofs.Common.{◌≡◌, ℕ, ◌+◌, max, true, false, ◌⊎◌, List, [], ◌∷◌, ◌++◌, length, Option, None, Ok, refl, ap, ◌∙◌, arith, inl, inr, append_assoc}
use Rattle.dpi_grammar.specs.Told.{◌&◌, noted, deeper}
use Rattle.dpi_grammar.specs.Parser.{and_then, expect, first, ◌<$>◌}
use Rattle.dpi_grammar.proofs.Lists.{words_append, right_join}
use Rattle.dpi_grammar.proofs.Exact.{Kind, words, Is, pair}
use Rattle.dpi_grammar.proofs.Rules.{Rule, never, Inside, one, seq, last, mapped, remade, told_as, dead}
use Rattle.dpi_grammar.proofs.Many.{Starts}
use Rattle.dpi_grammar.proofs.Choices.{either, sum, choice, Opening, opening, opened_rule}
use Rattle.dpi_grammar.proofs.Leading.{part_value}
use Rattle.dpi_grammar.proofs.Firsts.{in_left, in_right}
use Rattle.dpi_lex.specs.Words.{Word}
use Rattle.c_tree.specs.declared.class.Class.TheVariants as classes
use Rattle.c_tree.specs.declared.operators.UnaryOperator.{UnaryOperator}
use Rattle.c_tree.specs.declared.types.CType.{CType}
use Rattle.c_tree.specs.declared.types.Star.{Star}
use Rattle.c_tree.specs.declared.expr.Prefix.{Prefix}
use Rattle.c_tree.specs.declared.expr.Prefix.TheVariants as prefixes
use Rattle.c_tree.specs.declared.expr.CExpr.{CExpr}
use Rattle.c_tree.specs.declared.expr.Primary.{Primary}
use Rattle.c_tree.specs.declared.expr.Primary.TheVariants as forms
use Rattle.c_tree.specs.Classes.{is_class, is, word_of}
use Rattle.c_tree.specs.Leaves.{Tells, quoted}
use Rattle.c_tree.specs.Expressions.{prefix_told, expr_told}
use Rattle.c_tree.proofs.ClassLemmas.{knows}
use Rattle.c_types.specs.Reading.{begins_type}
use Rattle.c_expr.specs.declared.lead.Lead.{Lead}
use Rattle.c_expr.specs.declared.lead.Lead.TheVariants as leads
use Rattle.c_expr.specs.Front.{begins_sign, begins_lead, begins_expr}
use Rattle.c_expr.specs.Reading as spec
use Rattle.c_expr.specs.Reading.{Readers, Inner}
use Rattle.c_expr.proofs.Goes.{a_cond, an_expr}
use Rattle.c_expr.proofs.Operators.{type_apart}
use Rattle.c_expr.proofs.Frees.{expr_stops}
use Rattle.c_expr.proofs.Beginnings.{pair_starts, sum_starts, starts_within, told_starts}
use Rattle.c_expr.proofs.PartRules.{a_sign, sign_starts, sign_off, sign_value, sign_rule, a_cast, cast_starts, cast_value, cast_rule}
use Rattle.c_expr.proofs.Shortest.{expr_viable, cond_viable, expr_reached}
use Rattle.c_expr.proofs.Starts.{expr_starts}

-- what reads expressions is exact
pub record Good (live : Type 0) (d : ℕ) (e : Readers) : Type 0 where
  pub expr : Rule live never an_expr (λ x. x) d e.expr
  pub cond : Rule live never a_cond (λ x. x) d e.cond

-- without a parser
pub no_good : (m : ℕ) (e : Readers) → Good ⊥ m e
no_good m e = record { expr = dead (expr_viable m); cond = dead (cond_viable m) }

-- ---- expr ")", behind a "("

abbrev pub a_group : Kind Word (CExpr × Unit {0})
a_group = pair an_expr (λ _. one (word_of classes.CloseParen))

abbrev group_value : ℕ → CExpr × Unit {0} → Lead
group_value k y = leads.Whole (forms.Group k y.0)

group_rule : (m k : ℕ) (e : Readers) → Good (Unit {0}) m e → Rule (Unit {0}) never a_group (group_value k) m (spec.group k e)
unfolding spec.group
group_rule m k e good =
    seq (λ x. x) (λ x _. leads.Whole (forms.Group k x)) (λ x s. and_then (expect (is classes.CloseParen) s) (λ _ s. Ok (leads.Whole (forms.Group k x), s))) good.expr
    (λ x. last (is classes.CloseParen) (word_of classes.CloseParen) (leads.Whole (forms.Group k x)) (knows classes.CloseParen refl) (expr_stops classes.CloseParen refl refl x))

group_starts : Starts begins_expr a_group
group_starts = pair_starts begins_expr an_expr (λ _. one (word_of classes.CloseParen)) expr_starts

group_reached : (o : Option Word) → begins_expr o ≡ true → (n : ℕ) → (y : CExpr × Unit {0}) × Is a_group n y × ((r : List Word) → first (words a_group y ++ r) ≡ o)
group_reached o e n =
    let x = expr_reached o n e in (
      (x.0, tt),
      right_join n (n + length (words an_expr x.0)) (expr_told x.0).atoms (quoted classes.CloseParen).atoms refl x.1 tt,
      λ r. ap (λ l. first (l ++ r)) (words_append (expr_told x.0).atoms (quoted classes.CloseParen).atoms) ∙ ap first (append_assoc (words an_expr x.0) (word_of classes.CloseParen ∷ []) r) ∙ x.2 (word_of classes.CloseParen ∷ r),
    )

-- ---- "(" type stars ")" | "(" expr ")"

abbrev bracket_made : ℕ → (CType × (List Star × Unit {0})) ⊎ (CExpr × Unit {0}) → Lead
bracket_made k (inl x) = cast_value k x
bracket_made k (inr y) = group_value k y

bracket_open : Opening Good (is classes.OpenParen) begins_type begins_expr (word_of classes.OpenParen) a_cast a_group bracket_made spec.cast spec.group
bracket_open = record {
  flat_rule = λ d k. cast_rule k;
  deep_rule = λ m k e good. group_rule m k e good;
  knows = knows classes.OpenParen refl;
  flat_starts = cast_starts;
  deep_starts = group_starts;
  apart = type_apart;
  reach = group_reached;
}

abbrev a_bracket : Kind Word (ℕ × ((CType × (List Star × Unit {0})) ⊎ (CExpr × Unit {0})))
a_bracket = opening Good (is classes.OpenParen) begins_type begins_expr (word_of classes.OpenParen) a_cast a_group bracket_made spec.cast spec.group bracket_open

bracket_starts : Starts (is classes.OpenParen) a_bracket
bracket_starts n x r h = (knows classes.OpenParen refl).yes

bracket_rule : (d : ℕ) (inner : Inner) → Inside Good d inner → Rule (Unit {0}) never a_bracket (λ p. bracket_made p.0 p.1) d (spec.bracket inner)
bracket_rule d inner h = opened_rule Good (is classes.OpenParen) begins_type begins_expr (word_of classes.OpenParen) a_cast a_group bracket_made spec.cast spec.group bracket_open d inner h

-- ---- unop | "(" type stars ")" | "(" expr ")"

-- a prefix; or an expression in parentheses, with the number of its "("
abbrev pub lead_told : Prefix ⊎ (ℕ × CExpr) → Tells
lead_told (inl p) = prefix_told p
lead_told (inr g) = deeper (noted g.0 & quoted classes.OpenParen & expr_told g.1 & quoted classes.CloseParen)

abbrev pub a_lead : Kind Word (Prefix ⊎ (ℕ × CExpr))
a_lead = record { told = lead_told; grabs = λ _ _. false }

abbrev lead_shape : Kind Word ((ℕ × ((CType × (List Star × Unit {0})) ⊎ (CExpr × Unit {0}))) ⊎ (ℕ × UnaryOperator))
lead_shape = sum a_bracket a_sign

abbrev lead_of : (ℕ × ((CType × (List Star × Unit {0})) ⊎ (CExpr × Unit {0}))) ⊎ (ℕ × UnaryOperator) → Prefix ⊎ (ℕ × CExpr)
lead_of (inl (k, inl x)) = inl (prefixes.Cast k x.0 x.1.0)
lead_of (inl (k, inr y)) = inr (k, y.0)
lead_of (inr p) = inl (prefixes.Sign p.0 p.1)

abbrev pub group_of : ℕ × CExpr → Primary
group_of g = forms.Group g.0 g.1

abbrev lead_value : Prefix ⊎ (ℕ × CExpr) → Lead
lead_value (inl p) = leads.Prefix p
lead_value (inr g) = leads.Whole (group_of g)

-- a level that begins at a token begins at its number
deeper_behind : (k : ℕ) (a : Tells) → a.unended ≡ false → deeper (noted k & quoted classes.OpenParen & a) ≡ noted k & quoted classes.OpenParen & deeper a
deeper_behind k a e =
    let levels : max 0 (max 0 a.levels) + 1 ≡ max 0 (max 0 (a.levels + 1)) = omega arith in
    ap (λ m. let t : Tells = record { atoms = (noted k & quoted classes.OpenParen & a).atoms; levels = m; unended = a.unended } in t) levels

lead_tells : (x : (ℕ × ((CType × (List Star × Unit {0})) ⊎ (CExpr × Unit {0}))) ⊎ (ℕ × UnaryOperator)) → a_lead.told (lead_of x) ≡ lead_shape.told x
lead_tells (inl (k, inl x)) = refl
lead_tells (inl (k, inr y)) = deeper_behind k (a_group.told y) refl
lead_tells (inr p) = refl

lead_grabs : (x : (ℕ × ((CType × (List Star × Unit {0})) ⊎ (CExpr × Unit {0}))) ⊎ (ℕ × UnaryOperator)) (t : Option Word) → a_lead.grabs (lead_of x) t ≡ lead_shape.grabs x t
lead_grabs (inl (k, inl x)) t = refl
lead_grabs (inl (k, inr y)) t = refl
lead_grabs (inr p) t = refl

lead_all : (z : Prefix ⊎ (ℕ × CExpr)) → (x : (ℕ × ((CType × (List Star × Unit {0})) ⊎ (CExpr × Unit {0}))) ⊎ (ℕ × UnaryOperator)) × (lead_of x ≡ z)
lead_all (inl (prefixes.Sign k o)) = (inr (k, o), refl)
lead_all (inl (prefixes.Cast k t ss)) = (inl (k, inl (t, (ss, tt))), refl)
lead_all (inr g) = (inl (g.0, inr (g.1, tt)), refl)

lead_values : (x : (ℕ × ((CType × (List Star × Unit {0})) ⊎ (CExpr × Unit {0}))) ⊎ (ℕ × UnaryOperator)) → lead_value (lead_of x) ≡ either (λ (p : ℕ × ((CType × (List Star × Unit {0})) ⊎ (CExpr × Unit {0}))). bracket_made p.0 p.1) sign_value x
lead_values (inl (k, inl x)) = refl
lead_values (inl (k, inr y)) = refl
lead_values (inr p) = refl

lead_rule : (d : ℕ) (inner : Inner) → Inside Good d inner → Rule (Unit {0}) never a_lead lead_value d (spec.lead inner)
unfolding spec.lead
lead_rule d inner h =
    told_as a_lead lead_of lead_value lead_tells lead_grabs lead_all
    (remade (λ x. lead_value (lead_of x)) lead_values (choice (is classes.OpenParen) bracket_starts sign_off (bracket_rule d inner h) sign_rule))

part_values : (x : Prefix ⊎ (ℕ × CExpr)) → part_value group_of x ≡ spec.sort (lead_value x)
part_values (inl p) = refl
part_values (inr g) = refl

-- the same, sorted
pub part_rule : (d : ℕ) (inner : Inner) → Inside Good d inner → Rule (Unit {0}) never a_lead (part_value group_of) d (spec.sort <$> spec.lead inner)
part_rule d inner h = remade (part_value group_of) part_values (mapped spec.sort (lead_rule d inner h))

-- ---- first tokens

lead_shape_starts : Starts begins_lead lead_shape
lead_shape_starts =
    sum_starts begins_lead a_bracket a_sign (starts_within (is classes.OpenParen) begins_lead a_bracket (λ t e. in_left (is classes.OpenParen t) (begins_sign t) e) bracket_starts)
    (starts_within begins_sign begins_lead a_sign (λ t e. in_right (is classes.OpenParen t) (begins_sign t) e) sign_starts)

pub lead_starts : Starts begins_lead a_lead
lead_starts = told_starts begins_lead lead_shape a_lead lead_of lead_tells lead_all lead_shape_starts

pub lead_stop : begins_lead None ≡ false
unfolding is_class
lead_stop = refl
