-- The parsers of what a variable begins with are exact.
use Rattle.std.proofs.Common.{◌≡◌, ℕ, zero, suc, Bool, true, false, ◌||◌, ◌⊎◌, List, [], Option, Some, refl, sym, ap, ◌∙◌, arith, inl, inr}
use Rattle.dpi_grammar.specs.Parser.{and_then, refuse, separated}
use Rattle.dpi_grammar.proofs.Exact.{Kind, Viable, pair}
use Rattle.dpi_grammar.proofs.Forms.{Form, told_form, form_viable, within}
use Rattle.dpi_grammar.proofs.Rules.{Rule, never, Inside, seq, mapped, told_as, last, one, dead}
use Rattle.dpi_grammar.proofs.Many.{Starts, Apart, commas, separate, put_apart}
use Rattle.dpi_grammar.proofs.Choices.{Enters, either, sum, choice_deeper}
use Rattle.dpi_grammar.proofs.Firsts.{commas_apart}
use Rattle.dpi_lex.specs.Words.{Word}
use Rattle.sv_tree.specs.declared.class.Class.{Class}
use Rattle.sv_tree.specs.declared.class.Class.TheVariants as classes
use Rattle.sv_tree.specs.declared.expr.Expr.{Expr}
use Rattle.sv_tree.specs.declared.statements.Init.{Init, roll-Init, out-Init, roll-out-Init}
use Rattle.sv_tree.specs.declared.statements.Init.TheVariants as inits
use Rattle.sv_tree.specs.declared.statements.Init.TheOpen.{Init-F}
use Rattle.sv_tree.specs.Classes.{word_of, is_class, is}
use Rattle.sv_tree.specs.Statements.{init_told}
use Rattle.sv_tree.proofs.ClassLemmas.{is_fixed, knows}
use Rattle.sv_cursor.specs.Reading.{Parses}
use Rattle.sv_cursor.proofs.Tokens.{apart_of}
use Rattle.sv_expr.specs.Front.{is_start}
use Rattle.sv_expr.proofs.Goes.{an_expr}
use Rattle.sv_expr.proofs.Starts.{expr_starts, expr_viable}
use Rattle.sv_expr.proofs.Frees.{stops, expr_stops}
use Rattle.sv_expr.proofs.ExprRules.{expr_rule}
use Rattle.sv_expr.proofs.Alternatives.{lively}
use Rattle.sv_stmt.specs.ReadingVariables as spec
use Rattle.sv_stmt.proofs.Trees.{InitLayer, init_tells}
use Rattle.sv_stmt.proofs.Fronts.{Fronts, by_class, off_by, keyword, keyword_front, keyword_rule, sum_fronts, at_word, word_apart, starts_as}

-- ---- kinds

abbrev pub init_layer_grabs : InitLayer → Option Word → Bool
init_layer_grabs (Init-F.Value e) = an_expr.grabs e
init_layer_grabs (Init-F.Pattern k is) = never

-- an expression goes on as it does, a pattern with nothing
abbrev pub an_init : Kind Word Init
an_init = record { told = init_told; grabs = λ i. init_layer_grabs (out-Init i) }

abbrev commas_of : {X : Type 0} → Kind Word X → Kind Word (List X)
commas_of = commas (is classes.Comma) (word_of classes.Comma)

-- init,+ "}"
abbrev in_pattern : Kind Word (List Init × Unit {0})
in_pattern = pair (commas_of an_init) (λ _. one (word_of classes.CloseBrace))

-- "'{" init,+ "}"
abbrev pub a_pattern : Kind Word (ℕ × (List Init × Unit {0}))
a_pattern = keyword classes.Pattern in_pattern

abbrev pub pattern_of : ℕ × (List Init × Unit {0}) → Init
pattern_of p = inits.Pattern p.0 p.1.0

abbrev pub any_init : Kind Word ((ℕ × (List Init × Unit {0})) ⊎ Expr)
any_init = sum (within a_pattern) an_expr

abbrev init_of : (ℕ × (List Init × Unit {0})) ⊎ Expr → Init
init_of = either pattern_of inits.Value

init_of_told : (x : (ℕ × (List Init × Unit {0})) ⊎ Expr) → an_init.told (init_of x) ≡ any_init.told x
init_of_told (inl p) = init_tells (pattern_of p) _ (inits.outs-Pattern p.0 p.1.0)
init_of_told (inr e) = init_tells (inits.Value e) _ (inits.outs-Value e)

init_of_grabs : (x : (ℕ × (List Init × Unit {0})) ⊎ Expr) (t : Option Word) → an_init.grabs (init_of x) t ≡ any_init.grabs x t
init_of_grabs (inl p) t = ap (λ l. init_layer_grabs l t) (inits.outs-Pattern p.0 p.1.0)
init_of_grabs (inr e) t = ap (λ l. init_layer_grabs l t) (inits.outs-Value e)

init_all_by : (l : InitLayer) → (x : (ℕ × (List Init × Unit {0})) ⊎ Expr) × (init_of x ≡ roll-Init l)
init_all_by (Init-F.Value e) = (inr e, sym (inits.rolls-Value e))
init_all_by (Init-F.Pattern k is) = (inl (k, (is, tt)), sym (inits.rolls-Pattern k is))

init_all : (z : Init) → (x : (ℕ × (List Init × Unit {0})) ⊎ Expr) × (init_of x ≡ z)
init_all z = let x = init_all_by (out-Init z) in (x.0, x.1 ∙ roll-out-Init z)

-- ---- what an init begins with, and goes on with

-- what an init begins with
abbrev pub is_init : Option Class → Bool
is_init c = is_class classes.Pattern c || is_start c

abbrev pub begins_init : Option Word → Bool
begins_init = by_class is_init

any_fronts : Fronts is_init any_init
any_fronts = sum_fronts (is_class classes.Pattern) is_start (within a_pattern) an_expr (keyword_front classes.Pattern in_pattern refl) expr_starts

pub init_starts : Starts begins_init an_init
init_starts = starts_as begins_init an_init any_init init_of init_of_told init_all any_fronts

stop_by : (c : Class) → is_fixed c ≡ true → stops c ≡ false → (l : InitLayer) → init_layer_grabs l (Some (word_of c)) ≡ false
stop_by c fixed stop (Init-F.Value e) = expr_stops c fixed stop e
stop_by c fixed stop (Init-F.Pattern k is) = refl

-- it doesn't go on with the word of this class
pub init_stops : (c : Class) → is_fixed c ≡ true → stops c ≡ false → (i : Init) → an_init.grabs i (Some (word_of c)) ≡ false
init_stops c fixed stop i = stop_by c fixed stop (out-Init i)

value_form : Form an_expr an_init inits.Value
value_form = told_form an_expr an_init inits.Value (λ e. init_of_told (inr e)) (λ e t. init_of_grabs (inr e) t)

pub init_viable : (d n : ℕ) → Viable an_init d n []
init_viable d n = form_viable an_expr an_init inits.Value value_form d n [] (expr_viable d n)

-- ---- rules

-- what reads an init one level further in is exact
abbrev pub InitGood : Type 0 → ℕ → Parses Init → Type 0
InitGood live m i = Rule live never an_init (λ x. x) m i

inits_stop : (xs : List Init) → (commas_of an_init).grabs xs (Some (word_of classes.CloseBrace)) ≡ false
inits_stop xs =
    at_word classes.CloseBrace refl _
    (commas_apart (is classes.CloseBrace) (is classes.Comma) (word_of classes.Comma) an_init (apart_of classes.CloseBrace classes.Comma refl)
    (λ i. word_apart classes.CloseBrace refl (an_init.grabs i) (init_stops classes.CloseBrace refl refl i)) xs)

pattern_rule : {live : Type 0} (m : ℕ) (i : Parses Init) → InitGood live m i → Rule live never a_pattern pattern_of m (spec.pattern_by i)
unfolding spec.pattern_by is_class
pattern_rule m i good =
    keyword_rule classes.Pattern (λ k p. inits.Pattern k p.0) (λ k s. and_then (separated (is classes.Comma) i s) (λ xs s. _)) refl
    (λ k. seq (λ xs. xs) (λ xs _. inits.Pattern k xs) _
    (separate (is classes.Comma) (word_of classes.Comma) (knows classes.Comma refl) refl (init_stops classes.Comma refl refl) good good)
    (λ xs. last (is classes.CloseBrace) (word_of classes.CloseBrace) (inits.Pattern k xs) (knows classes.CloseBrace refl) (inits_stop xs)))

pattern_enters : Enters InitGood (is classes.Pattern) (word_of classes.Pattern) a_pattern pattern_of spec.pattern_by
pattern_enters = record {
  rule = λ live m i good. pattern_rule m i good;
  some = refuse;
  dead = λ m. dead (init_viable m);
  knows = knows classes.Pattern refl;
  starts = λ n x r h. refl;
}

pub init_by : (d : ℕ) (inner : spec.Patterns) → Inside InitGood d inner → Rule (Unit {0}) never an_init (λ x. x) d (spec.init_in d inner)
unfolding spec.init_in
init_by d inner h =
    told_as an_init init_of (λ x. x) init_of_told init_of_grabs init_all
    (choice_deeper InitGood (is classes.Pattern) (word_of classes.Pattern) a_pattern pattern_of spec.pattern_by pattern_enters an_expr inits.Value
    (off_by classes.Pattern is_start an_expr expr_starts refl) refl inner h (expr_viable 0) (mapped inits.Value (expr_rule d (λ t e. refl))))

pub init_inside : (d : ℕ) → Inside InitGood d (spec.patterns d)
init_inside zero = refl
init_inside (suc d) = (d, omega arith, init_by d (spec.patterns d) (init_inside d))

pub init_rule : {live : Type 0} {before : Option Word → Bool} (d : ℕ) → Apart begins_init before → Rule live before an_init (λ x. x) d (spec.init d)
init_rule {before = before} d apart = put_apart begins_init before init_starts apart (lively (init_by d (spec.patterns d) (init_inside d)))
