-- The parsers of operands are exact, where those of expressions inside are.
use Rattle.std.proofs.Common.{◌≡◌, ℕ, true, false, ◌⊎◌, List, [], map, Option, Some, None, Ok, refl, sym, ap, ◌∙◌, arith, inl, inr}
use Rattle.dpi_grammar.specs.Told.{◌&◌, noted, deeper, between, each}
use Rattle.dpi_grammar.specs.Parser.{and_then, expect}
use Rattle.dpi_grammar.proofs.Exact.{Kind, pair, Viable}
use Rattle.dpi_grammar.proofs.Forms.{within}
use Rattle.dpi_grammar.proofs.Rules.{Rule, never, Inside, place, behind, one, numbered, token_then, seq, last, mapped, told_as}
use Rattle.dpi_grammar.proofs.Many.{Starts, Repeats, option, a_list, lists, many}
use Rattle.dpi_grammar.proofs.Choices.{either, sum, Off, starts_off, choice, Enters, choice_deeper}
use Rattle.dpi_grammar.proofs.Leading.{Leads, led, the_last, leading_rule}
use Rattle.dpi_grammar.proofs.Deeper.{deeper_rule, Opens, perhaps_deeper}
use Rattle.dpi_grammar.proofs.Firsts.{a_list_apart}
use Rattle.dpi_lex.specs.Words.{Word}
use Rattle.c_tree.specs.declared.class.Class.{Class}
use Rattle.c_tree.specs.declared.class.Class.TheVariants as classes
use Rattle.c_tree.specs.declared.leaves.Name.{Name}
use Rattle.c_tree.specs.declared.leaves.Number.{Number}
use Rattle.c_tree.specs.declared.leaves.Character.{Character}
use Rattle.c_tree.specs.declared.leaves.Text.{Text}
use Rattle.c_tree.specs.declared.expr.Prefix.{Prefix}
use Rattle.c_tree.specs.declared.expr.CExpr.{CExpr}
use Rattle.c_tree.specs.declared.expr.Primary.{Primary, roll-Primary, out-Primary, roll-out-Primary}
use Rattle.c_tree.specs.declared.expr.Primary.TheVariants as forms
use Rattle.c_tree.specs.declared.expr.Suffix.{Suffix, roll-Suffix, out-Suffix, roll-out-Suffix}
use Rattle.c_tree.specs.declared.expr.Suffix.TheVariants as suffix_forms
use Rattle.c_tree.specs.declared.expr.Primary.TheOpen.{Primary-F, Suffix-F}
use Rattle.c_tree.specs.Classes.{is, word_of}
use Rattle.c_tree.specs.Leaves.{quoted, comma}
use Rattle.c_tree.specs.Expressions.{prefix_told, expr_told, primary_told}
use Rattle.c_tree.proofs.ClassLemmas.{knows}
use Rattle.c_cursor.proofs.Tokens.{class_is, apart_of}
use Rattle.c_cursor.proofs.LeafRules.{a_name, name_rule}
use Rattle.c_expr.specs.Front.{is_suffix, begins_lead, begins_suffix, begins_expr}
use Rattle.c_expr.specs.Reading as spec
use Rattle.c_expr.specs.Reading.{Readers, Inner}
use Rattle.c_expr.proofs.Trees.{Layer, SuffixLayer, operand, primary_tells, suffix_tells}
use Rattle.c_expr.proofs.Goes.{a_primary, a_suffix, an_operand, an_expr, primary_grabs_are, suffix_grabs_are, operand_grabs_are}
use Rattle.c_expr.proofs.Operators.{plain_no_lead, close_apart}
use Rattle.c_expr.proofs.Frees.{expr_stops, expr_apart, primary_apart, suffixes_apart}
use Rattle.c_expr.proofs.Beginnings.{pair_starts, sum_starts, sum_off, starts_within, told_starts}
use Rattle.c_expr.proofs.PartRules.{no_class, name_starts, a_literal, literal_value, literal_off, literal_no_lead, literal_rule, mark_starts, marked_name_starts, a_mark, a_marked_name, a_step, a_flat_suffix, flat_suffix_value, flat_suffix_off, flat_suffix_rule}
use Rattle.c_expr.proofs.Starts.{a_led, operand_of, operand_says, operand_all, expr_starts}
use Rattle.c_expr.proofs.Leads.{Good, no_good, a_lead, group_of, part_rule, lead_starts, lead_stop}

-- ---- (expr,+)?

abbrev pub exprs_or_none : Kind Word (List CExpr)
exprs_or_none = a_list begins_expr (is classes.Comma) comma an_expr never

listed_rule : {live : Type 0} {d : ℕ} {e : Readers} → Good live d e → Rule live never exprs_or_none (λ xs. xs) d (spec.listed_by e)
listed_rule good = lists begins_expr (is classes.Comma) never comma (knows classes.Comma refl) (no_class classes.Comma) (expr_stops classes.Comma refl refl) expr_starts (λ t e. refl) good.expr

-- the `)` stands behind all of them
close_behind : (xs : List CExpr) → exprs_or_none.grabs xs (Some (word_of classes.CloseParen)) ≡ false
close_behind xs =
    a_list_apart (is classes.CloseParen) begins_expr (is classes.Comma) never comma an_expr close_apart (λ t e. refl) (apart_of classes.CloseParen classes.Comma refl) (expr_apart classes.CloseParen refl refl) xs
    (Some (word_of classes.CloseParen)) (knows classes.CloseParen refl).yes

-- ---- "(" (expr,+)? ")"

abbrev flat_arguments : Kind Word (ℕ × (List CExpr × Unit {0}))
flat_arguments = pair (place never) (λ _. behind (word_of classes.OpenParen) (pair exprs_or_none (λ _. one (word_of classes.CloseParen))))

abbrev arguments_of : ℕ → List CExpr → ℕ × List CExpr
arguments_of k xs = (k, xs)

flat_arguments_rule : {live : Type 0} {d : ℕ} {e : Readers} → Good live d e → Rule live never flat_arguments (λ p. arguments_of p.0 p.1.0) d (spec.arguments_by e)
unfolding spec.arguments_by
flat_arguments_rule {e = e} good =
    numbered (λ k p. arguments_of k p.0)
    (λ k s. and_then (expect (is classes.OpenParen) s) (λ _ s. and_then (spec.listed_by e s) (λ xs s. and_then (expect (is classes.CloseParen) s) (λ _ s. Ok (arguments_of k xs, s)))))
    (λ k. token_then (is classes.OpenParen) (word_of classes.OpenParen) (knows classes.OpenParen refl) refl
    (seq (λ xs. xs) (λ xs _. arguments_of k xs) (λ xs s. and_then (expect (is classes.CloseParen) s) (λ _ s. Ok (arguments_of k xs, s))) (listed_rule good)
    (λ xs. last (is classes.CloseParen) (word_of classes.CloseParen) (arguments_of k xs) (knows classes.CloseParen refl) (close_behind xs))))

abbrev pub some_arguments : Kind Word (ℕ × List CExpr)
some_arguments = record { told = λ p. deeper (noted p.0 & quoted classes.OpenParen & between comma (map expr_told p.1) & quoted classes.CloseParen); grabs = λ _ _. false }

arguments_open : Opens Good (is classes.OpenParen) (word_of classes.OpenParen) some_arguments spec.arguments_by
arguments_open = record {
  rule = λ live m e good. told_as some_arguments (λ (p : ℕ × (List CExpr × Unit {0})). arguments_of p.0 p.1.0) (λ x. x) (λ p. refl) (λ p t. refl) (λ x. ((x.0, (x.1, tt)), refl)) (deeper_rule (flat_arguments_rule good));
  some = spec.readers 0;
  dead = λ m. no_good m (spec.readers 0);
  knows = knows classes.OpenParen refl;
  stop = no_class classes.OpenParen;
  starts = λ n x r h. refl;
  high = λ x few. omega (arith, few);
}

-- ---- id | id "(" (expr,+)? ")"

abbrev a_named : Kind Word (Name × Option (ℕ × List CExpr))
a_named = pair a_name (λ _. option (is classes.OpenParen) some_arguments never)

abbrev named_value : Name × Option (ℕ × List CExpr) → Primary
named_value q = spec.named_by q.0 q.1

named_starts : Starts (is classes.Name) a_named
named_starts = pair_starts (is classes.Name) a_name (λ _. option (is classes.OpenParen) some_arguments never) name_starts

named_rule : (d : ℕ) (inner : Inner) → Inside Good d inner → Rule (Unit {0}) never a_named named_value d (spec.named inner)
unfolding spec.named
named_rule d inner h =
    seq (λ n. n) (λ n p. spec.named_by n p) (λ n s. and_then (spec.arguments_in inner s) (λ p s. Ok (spec.named_by n p, s))) (name_rule (λ t e. refl))
    (λ n. mapped (spec.named_by n) (perhaps_deeper Good (is classes.OpenParen) never (word_of classes.OpenParen) some_arguments spec.arguments_by arguments_open refl d inner h))

-- ---- an operand without prefixes and parentheses

abbrev Plain : Type 0
Plain = (Name × Option (ℕ × List CExpr)) ⊎ (Number ⊎ (Character ⊎ (Text ⊎ (ℕ × Unit {0}))))

abbrev a_plain : Kind Word Plain
a_plain = sum a_named a_literal

abbrev plain_value : Plain → Primary
plain_value = either named_value literal_value

plain_rule : (d : ℕ) (inner : Inner) → Inside Good d inner → Rule (Unit {0}) never a_plain plain_value d (spec.plain inner)
unfolding spec.plain
plain_rule d inner h =
    choice (is classes.Name) named_starts
    (literal_off (is classes.Name) (apart_of classes.Number classes.Name refl) (apart_of classes.Character classes.Name refl) (apart_of classes.Text classes.Name refl) (apart_of classes.Null classes.Name refl))
    (named_rule d inner h) literal_rule

plain_off : Off begins_lead a_plain
plain_off = sum_off begins_lead a_named a_literal (starts_off (is classes.Name) begins_lead a_named named_starts (plain_no_lead classes.Name refl)) literal_no_lead

-- ---- (unop | "(" type stars ")")* primary

-- an expression in parentheses, or another primary
abbrev Whole : Type 0
Whole = (ℕ × CExpr) ⊎ Plain

abbrev whole_value : Whole → Primary
whole_value = either group_of plain_value

whole_tells : (w : Whole) → primary_told (whole_value w) ≡ (the_last begins_lead a_lead a_plain).told w
whole_tells (inl g) = primary_tells (forms.Group g.0 g.1) _ (forms.outs-Group g.0 g.1)
whole_tells (inr (inl (n, None))) = primary_tells (forms.Name n) _ (forms.outs-Name n)
whole_tells (inr (inl (n, Some p))) = primary_tells (forms.Call n p.0 p.1) _ (forms.outs-Call n p.0 p.1)
whole_tells (inr (inr (inl m))) = primary_tells (forms.Number m) _ (forms.outs-Number m)
whole_tells (inr (inr (inr (inl m)))) = primary_tells (forms.Character m) _ (forms.outs-Character m)
whole_tells (inr (inr (inr (inr (inl m))))) = primary_tells (forms.Text m) _ (forms.outs-Text m)
whole_tells (inr (inr (inr (inr (inr p))))) = primary_tells (forms.Null p.0) _ (forms.outs-Null p.0)

whole_grabs : (w : Whole) (t : Option Word) → a_primary.grabs (whole_value w) t ≡ (the_last begins_lead a_lead a_plain).grabs w t
whole_grabs (inl g) t = primary_grabs_are (forms.Group g.0 g.1) _ (forms.outs-Group g.0 g.1) t
whole_grabs (inr (inl (n, None))) t = primary_grabs_are (forms.Name n) _ (forms.outs-Name n) t
whole_grabs (inr (inl (n, Some p))) t = primary_grabs_are (forms.Call n p.0 p.1) _ (forms.outs-Call n p.0 p.1) t
whole_grabs (inr (inr (inl m))) t = primary_grabs_are (forms.Number m) _ (forms.outs-Number m) t
whole_grabs (inr (inr (inr (inl m)))) t = primary_grabs_are (forms.Character m) _ (forms.outs-Character m) t
whole_grabs (inr (inr (inr (inr (inl m))))) t = primary_grabs_are (forms.Text m) _ (forms.outs-Text m) t
whole_grabs (inr (inr (inr (inr (inr p))))) t = primary_grabs_are (forms.Null p.0) _ (forms.outs-Null p.0) t

whole_by : (l : Layer) (p : Primary) → roll-Primary l ≡ p → (w : Whole) × (whole_value w ≡ p)
whole_by (Primary-F.Name n) p e = (inr (inl (n, None)), sym (forms.rolls-Name n) ∙ e)
whole_by (Primary-F.Number m) p e = (inr (inr (inl m)), sym (forms.rolls-Number m) ∙ e)
whole_by (Primary-F.Character m) p e = (inr (inr (inr (inl m))), sym (forms.rolls-Character m) ∙ e)
whole_by (Primary-F.Text m) p e = (inr (inr (inr (inr (inl m)))), sym (forms.rolls-Text m) ∙ e)
whole_by (Primary-F.Null k) p e = (inr (inr (inr (inr (inr (k, tt))))), sym (forms.rolls-Null k) ∙ e)
whole_by (Primary-F.Call n k es) p e = (inr (inl (n, Some (arguments_of k es))), sym (forms.rolls-Call n k es) ∙ e)
whole_by (Primary-F.Group k x) p e = (inl (k, x), sym (forms.rolls-Group k x) ∙ e)

abbrev led_shape : Kind Word (List Prefix × Whole)
led_shape = led begins_lead a_lead a_plain

abbrev led_with : List Prefix → Primary → List Prefix × Primary
led_with ps p = (ps, p)

abbrev led_of : List Prefix × Whole → List Prefix × Primary
led_of x = led_with x.0 (whole_value x.1)

led_says : (x : List Prefix × Whole) → a_led.told (led_of x) ≡ led_shape.told x
led_says x = ap (λ t. each (map prefix_told x.0) & t) (whole_tells x.1)

led_all : (z : List Prefix × Primary) → (x : List Prefix × Whole) × (led_of x ≡ z)
led_all (ps, p) = let w = whole_by (out-Primary p) p (roll-out-Primary p) in ((ps, w.0), ap (led_with ps) w.1)

leads : Leads begins_lead a_lead a_plain
leads = record { starts = lead_starts; stop = lead_stop; off = plain_off; free = λ a t. refl }

abbrev no_number : Number
no_number = record { token = 0; bytes = [] }

led_rule : (d : ℕ) (inner : Inner) → Inside Good d inner → Rule (Unit {0}) never a_led (λ p. p) d (spec.led inner)
led_rule d inner h =
    told_as a_led led_of (λ p. p) led_says (λ x t. whole_grabs x.1 t) led_all
    (leading_rule begins_lead group_of plain_value leads (inr (inl no_number)) (part_rule d inner h) (plain_rule d inner h))

-- ---- suffixes

-- "[" expr "]"
abbrev an_index : Kind Word (ℕ × (CExpr × Unit {0}))
an_index = pair (place never) (λ _. behind (word_of classes.OpenBracket) (pair an_expr (λ _. one (word_of classes.CloseBracket))))

abbrev index_value : ℕ × (CExpr × Unit {0}) → Suffix
index_value p = suffix_forms.Index p.0 p.1.0

index_rule : {live : Type 0} {d : ℕ} {e : Readers} → Good live d e → Rule live never an_index index_value d (spec.index_by e)
unfolding spec.index_by
index_rule {e = e} good =
    numbered (λ k p. suffix_forms.Index k p.0)
    (λ k s. and_then (expect (is classes.OpenBracket) s) (λ _ s. and_then (e.expr s) (λ x s. and_then (expect (is classes.CloseBracket) s) (λ _ s. Ok (suffix_forms.Index k x, s)))))
    (λ k. token_then (is classes.OpenBracket) (word_of classes.OpenBracket) (knows classes.OpenBracket refl) refl
    (seq (λ x. x) (λ x _. suffix_forms.Index k x) (λ x s. and_then (expect (is classes.CloseBracket) s) (λ _ s. Ok (suffix_forms.Index k x, s))) good.expr
    (λ x. last (is classes.CloseBracket) (word_of classes.CloseBracket) (suffix_forms.Index k x) (knows classes.CloseBracket refl) (expr_stops classes.CloseBracket refl refl x))))

index_enters : Enters Good (is classes.OpenBracket) (word_of classes.OpenBracket) an_index index_value spec.index_by
index_enters = record {
  rule = λ live m e good. index_rule good;
  some = spec.readers 0;
  dead = λ m. no_good m (spec.readers 0);
  knows = knows classes.OpenBracket refl;
  starts = λ n x r h. refl;
}

abbrev FlatSuffix : Type 0
FlatSuffix = (ℕ × Name) ⊎ ((ℕ × Name) ⊎ ((ℕ × Unit {0}) ⊎ (ℕ × Unit {0})))

abbrev AnySuffix : Type 0
AnySuffix = (ℕ × (CExpr × Unit {0})) ⊎ FlatSuffix

abbrev suffix_shape : Kind Word AnySuffix
suffix_shape = sum (within an_index) a_flat_suffix

abbrev suffix_of : AnySuffix → Suffix
suffix_of = either index_value flat_suffix_value

suffix_says : (x : AnySuffix) → a_suffix.told (suffix_of x) ≡ suffix_shape.told x
suffix_says (inl p) = suffix_tells (suffix_forms.Index p.0 p.1.0) _ (suffix_forms.outs-Index p.0 p.1.0)
suffix_says (inr (inl p)) = suffix_tells (suffix_forms.Member p.0 p.1) _ (suffix_forms.outs-Member p.0 p.1)
suffix_says (inr (inr (inl p))) = suffix_tells (suffix_forms.Arrow p.0 p.1) _ (suffix_forms.outs-Arrow p.0 p.1)
suffix_says (inr (inr (inr (inl p)))) = suffix_tells (suffix_forms.Increment p.0) _ (suffix_forms.outs-Increment p.0)
suffix_says (inr (inr (inr (inr p)))) = suffix_tells (suffix_forms.Decrement p.0) _ (suffix_forms.outs-Decrement p.0)

suffix_grabs : (x : AnySuffix) (t : Option Word) → a_suffix.grabs (suffix_of x) t ≡ suffix_shape.grabs x t
suffix_grabs (inl p) t = suffix_grabs_are (index_value p) t
suffix_grabs (inr (inl p)) t = suffix_grabs_are (suffix_forms.Member p.0 p.1) t
suffix_grabs (inr (inr (inl p))) t = suffix_grabs_are (suffix_forms.Arrow p.0 p.1) t
suffix_grabs (inr (inr (inr (inl p)))) t = suffix_grabs_are (suffix_forms.Increment p.0) t
suffix_grabs (inr (inr (inr (inr p)))) t = suffix_grabs_are (suffix_forms.Decrement p.0) t

suffix_by : (l : SuffixLayer) (z : Suffix) → roll-Suffix l ≡ z → (x : AnySuffix) × (suffix_of x ≡ z)
suffix_by (Suffix-F.Index k x) z e = (inl (k, (x, tt)), sym (suffix_forms.rolls-Index k x) ∙ e)
suffix_by (Suffix-F.Member k n) z e = (inr (inl (k, n)), sym (suffix_forms.rolls-Member k n) ∙ e)
suffix_by (Suffix-F.Arrow k n) z e = (inr (inr (inl (k, n))), sym (suffix_forms.rolls-Arrow k n) ∙ e)
suffix_by (Suffix-F.Increment k) z e = (inr (inr (inr (inl (k, tt)))), sym (suffix_forms.rolls-Increment k) ∙ e)
suffix_by (Suffix-F.Decrement k) z e = (inr (inr (inr (inr (k, tt)))), sym (suffix_forms.rolls-Decrement k) ∙ e)

suffix_all : (z : Suffix) → (x : AnySuffix) × (suffix_of x ≡ z)
suffix_all z = suffix_by (out-Suffix z) z (roll-out-Suffix z)

suffix_within : {X : Type 0} (c : Class) (K : Kind Word X) → is_suffix (Some c) ≡ true → Starts (is c) K → Starts begins_suffix K
suffix_within c K good starts = starts_within (is c) begins_suffix K (λ t e. ap is_suffix (class_is c t e) ∙ good) starts

suffix_starts : Starts begins_suffix a_suffix
suffix_starts =
    told_starts begins_suffix suffix_shape a_suffix suffix_of suffix_says suffix_all
    (sum_starts begins_suffix (within an_index) a_flat_suffix (suffix_within classes.OpenBracket (within an_index) refl (λ n x r h. (knows classes.OpenBracket refl).yes))
    (sum_starts begins_suffix (a_marked_name classes.Dot) (sum (a_marked_name classes.Arrow) a_step) (suffix_within classes.Dot (a_marked_name classes.Dot) refl (marked_name_starts classes.Dot refl))
    (sum_starts begins_suffix (a_marked_name classes.Arrow) a_step (suffix_within classes.Arrow (a_marked_name classes.Arrow) refl (marked_name_starts classes.Arrow refl))
    (sum_starts begins_suffix (a_mark classes.Increment) (a_mark classes.Decrement) (suffix_within classes.Increment (a_mark classes.Increment) refl (mark_starts classes.Increment refl))
    (suffix_within classes.Decrement (a_mark classes.Decrement) refl (mark_starts classes.Decrement refl))))))

flat_suffix_closes : (n : ℕ) → Viable a_flat_suffix 0 n []
flat_suffix_closes n =
    let rule : Rule (Unit {0}) never a_flat_suffix flat_suffix_value 0 spec.flat_suffix = flat_suffix_rule in
    rule.closes n

suffix_rule : (d : ℕ) (inner : Inner) → Inside Good d inner → Rule (Unit {0}) never a_suffix (λ x. x) d (spec.suffix inner)
unfolding spec.suffix
suffix_rule d inner h =
    told_as a_suffix suffix_of (λ x. x) suffix_says suffix_grabs suffix_all
    (choice_deeper Good (is classes.OpenBracket) (word_of classes.OpenBracket) an_index index_value spec.index_by index_enters a_flat_suffix flat_suffix_value flat_suffix_off refl inner h flat_suffix_closes flat_suffix_rule)

suffixes_repeat : Repeats begins_suffix a_suffix
suffixes_repeat = record { starts = suffix_starts; next = suffixes_apart; at_end = refl }

-- ---- operands

pub operand_rule : (d : ℕ) (inner : Inner) → Inside Good d inner → Rule (Unit {0}) never an_operand (λ x. x) d (spec.operand inner)
unfolding spec.operand
operand_rule d inner h =
    told_as an_operand operand_of (λ x. x) operand_says (λ x t. operand_grabs_are x.0 x.1.0.0 x.1.0.1 x.1.1 t) operand_all
    (numbered (λ k p. operand k p.0.0 p.0.1 p.1) (λ k s. and_then (spec.led inner s) (λ p s. and_then (spec.suffixes inner s) (λ ss s. Ok (operand k p.0 p.1 ss, s))))
    (λ k. seq (λ p. p) (λ p ss. operand k p.0 p.1 ss) (λ p s. and_then (spec.suffixes inner s) (λ ss s. Ok (operand k p.0 p.1 ss, s))) (led_rule d inner h)
    (λ p. mapped (λ ss. operand k p.0 p.1 ss) (many begins_suffix (a_primary.grabs p.1) suffixes_repeat (primary_apart p.1) [] (suffix_rule d inner h)))))
