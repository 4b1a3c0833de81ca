-- The parsers of the parts of a `case` are exact.
use Rattle.std.proofs.Common.{◌≡◌, ℕ, Bool, true, false, ◌||◌, ◌⊎◌, List, [], ◌∷◌, map, Option, Some, None, refl, inl, inr}
use Rattle.dpi_grammar.specs.Told.{behind_each}
use Rattle.dpi_grammar.specs.Parser.{and_then}
use Rattle.dpi_grammar.proofs.Exact.{Kind, Is, pair}
use Rattle.dpi_grammar.proofs.Forms.{Form, told_form}
use Rattle.dpi_grammar.proofs.Rules.{Rule, never, place, behind, seq, mapped, told_as, shaped, numbered, token_then, last, one}
use Rattle.dpi_grammar.proofs.Many.{Starts, Apart, Repeats, list, many}
use Rattle.dpi_grammar.proofs.Choices.{sum, either, choice}
use Rattle.dpi_grammar.proofs.Firsts.{list_apart, in_left, in_right}
use Rattle.dpi_lex.specs.Words.{Word}
use Rattle.sv_tree.specs.declared.class.Class.{Class}
use Rattle.sv_tree.specs.declared.class.Class.TheVariants as classes
use Rattle.sv_tree.specs.declared.expr.Expr.{Expr}
use Rattle.sv_tree.specs.declared.statements.Stmt.{Stmt}
use Rattle.sv_tree.specs.declared.statements.CaseItem.{CaseItem, out-CaseItem, roll-out-CaseItem}
use Rattle.sv_tree.specs.Classes.{word_of, is_class, is}
use Rattle.sv_tree.specs.Expressions.{comma, expr_told}
use Rattle.sv_tree.specs.Statements.{condition_told, values_told, item_told, some_each}
use Rattle.sv_tree.proofs.ClassLemmas.{knows}
use Rattle.sv_cursor.specs.Reading.{Parses}
use Rattle.sv_cursor.proofs.Tokens.{apart_by, apart_of}
use Rattle.sv_types.proofs.Choices.{pair_starts}
use Rattle.sv_expr.specs.Front.{begins_expr, is_start}
use Rattle.sv_expr.proofs.Goes.{an_expr}
use Rattle.sv_expr.proofs.Starts.{expr_starts}
use Rattle.sv_expr.proofs.Frees.{expr_stops}
use Rattle.sv_expr.proofs.ExprRules.{expr_rule, exprs_rule}
use Rattle.sv_expr.proofs.PartRules.{some_exprs, exprs_stop}
use Rattle.sv_stmt.specs.Front.{begins_item}
use Rattle.sv_stmt.specs.ReadingStatements as spec
use Rattle.sv_stmt.proofs.Trees.{item, item_tells}
use Rattle.sv_stmt.proofs.Goes.{a_stmt, an_item, item_grabs_are, item_bare, open_free}
use Rattle.sv_stmt.proofs.Fronts.{Fronts, by_class, off_by, at_depth, at_word, excluded_by, starts_as}

-- ---- "(" expr ")"

abbrev pub a_condition : Kind Word Expr
a_condition = record { told = condition_told; grabs = λ _. never }

pub condition_rule : {live : Type 0} (d : ℕ) → Rule live never a_condition (λ x. x) d (spec.condition d)
unfolding spec.condition
condition_rule d =
    told_as a_condition (λ (p : Expr × Unit {0}). p.0) (λ x. x) (λ p. refl) (λ p t. refl) (λ e. ((e, tt), refl))
    (token_then (is classes.OpenParen) (word_of classes.OpenParen) (knows classes.OpenParen refl) refl
    (seq (λ e. e) (λ e _. e) _ (expr_rule d (λ t e. refl)) (λ e. last (is classes.CloseParen) (word_of classes.CloseParen) e (knows classes.CloseParen refl) (expr_stops classes.CloseParen refl refl e))))

-- what reads a statement one level further in: where it is live, the number is that of the levels left there
abbrev pub NestedGood : Type 0 → ℕ → ℕ × Parses Stmt → Type 0
NestedGood live m e = (live → e.0 ≡ m) × Rule live never a_stmt (λ x. x) m e.1

-- ---- expr,+ | "default"

abbrev pub values_grabs : Option (List Expr) → Option Word → Bool
values_grabs None = never
values_grabs (Some es) = some_exprs.grabs es

abbrev pub some_values : Kind Word (Option (List Expr))
some_values = record { told = values_told; grabs = values_grabs }

abbrev default_word : Kind Word (Unit {0})
default_word = one (word_of classes.Default)

abbrev values_of : Unit {0} ⊎ List Expr → Option (List Expr)
values_of = either (λ _. None) Some

values_of_told : (x : Unit {0} ⊎ List Expr) → values_told (values_of x) ≡ (sum default_word some_exprs).told x
values_of_told (inl u) = refl
values_of_told (inr es) = refl

values_of_grabs : (x : Unit {0} ⊎ List Expr) (t : Option Word) → values_grabs (values_of x) t ≡ (sum default_word some_exprs).grabs x t
values_of_grabs (inl u) t = refl
values_of_grabs (inr es) t = refl

values_all : (z : Option (List Expr)) → (x : Unit {0} ⊎ List Expr) × (values_of x ≡ z)
values_all None = (inl tt, refl)
values_all (Some es) = (inr es, refl)

-- expressions, each behind a comma
abbrev behind_commas : Kind Word (List Expr)
behind_commas = record { told = λ xs. behind_each comma (map expr_told xs); grabs = λ _. never }

exprs_starts : Starts begins_expr some_exprs
exprs_starts n [] r h = let e : false ≡ true = h.0 in absurd (cc)
exprs_starts n (x ∷ xs) r h = pair_starts begins_expr an_expr (λ _. behind_commas) expr_starts n (x, xs) r h

values_rule : {live : Type 0} (d : ℕ) → Rule live never some_values (λ x. x) d (spec.item_values d)
unfolding spec.item_values
values_rule d =
    told_as some_values values_of (λ x. x) values_of_told values_of_grabs values_all
    (choice (is classes.Default) (λ n x r h. (knows classes.Default refl).yes) (off_by classes.Default is_start some_exprs exprs_starts refl)
    (last (is classes.Default) (word_of classes.Default) None (knows classes.Default refl) refl) (mapped Some (exprs_rule d (λ t e. refl))))

values_end : (vs : Option (List Expr)) → some_values.grabs vs (Some (word_of classes.Colon)) ≡ false
values_end None = refl
values_end (Some es) = exprs_stop classes.Colon refl refl refl es

-- what they begin with
abbrev pub is_item : Option Class → Bool
is_item c = is_class classes.Default c || is_start c

values_front : Fronts is_item some_values
values_front n None r h = in_left _ _ (knows classes.Default refl).yes
values_front n (Some es) r h = in_right _ _ (exprs_starts n es r h)

-- ---- values ":" stmt

abbrev in_item : Kind Word (ℕ × (Option (List Expr) × Stmt))
in_item = pair (place never) (λ _. pair some_values (λ _. behind (word_of classes.Colon) a_stmt))

abbrev item_of : ℕ × (Option (List Expr) × Stmt) → CaseItem
item_of p = item p.0 p.1.0 p.1.1

item_all : (z : CaseItem) → (p : ℕ × (Option (List Expr) × Stmt)) × (item_of p ≡ z)
item_all z = let o = out-CaseItem z in ((o.token, (o.values, o.body)), roll-out-CaseItem z)

pub item_rule : {live : Type 0} (m : ℕ) (e : ℕ × Parses Stmt) → NestedGood live m e → Rule live never an_item (λ x. x) m (spec.item e.0 e.1)
unfolding spec.item
item_rule m e good =
    told_as an_item item_of (λ x. x) (λ p. item_tells p.0 p.1.0 p.1.1) (λ p t. item_grabs_are p.0 p.1.0 p.1.1 t) item_all
    (numbered (λ k p. item k p.0 p.1) (λ k s. and_then (spec.item_values e.0 s) (λ vs s. _))
    (λ k. seq (λ vs. vs) (λ vs b. item k vs b) _ (at_depth spec.item_values e.0 good.0 values_rule)
    (λ vs. token_then (is classes.Colon) (word_of classes.Colon) (knows classes.Colon refl) (values_end vs) (mapped (λ b. item k vs b) good.1))))

in_item_front : Fronts is_item in_item
in_item_front n p r h = pair_starts (by_class is_item) some_values (λ _. behind (word_of classes.Colon) a_stmt) values_front n p.1 r h.1

pub item_front : Fronts is_item an_item
item_front = starts_as (by_class is_item) an_item in_item item_of (λ p. item_tells p.0 p.1.0 p.1.1) item_all in_item_front

pub item_apart : (x : CaseItem) → Apart begins_item (an_item.grabs x)
unfolding is_class
item_apart x t e = open_free (item_told x).unended (item_bare x) t (excluded_by classes.Else is_item refl t e) (excluded_by classes.Colon is_item refl t e)

items_repeat : Repeats begins_item an_item
unfolding is_class
items_repeat = record { starts = item_front; next = item_apart; at_end = refl }

-- ---- item+

abbrev items_grabs : List CaseItem → Option Word → Bool
items_grabs [] = never
items_grabs (x ∷ xs) = (list begins_item an_item (an_item.grabs x)).grabs xs

abbrev pub some_items : Kind Word (List CaseItem)
some_items = record { told = λ xs. some_each (map item_told xs); grabs = items_grabs }

abbrev first_item : Kind Word (CaseItem × List CaseItem)
first_item = pair an_item (λ x. list begins_item an_item (an_item.grabs x))

items_form : Form first_item some_items (λ p. p.0 ∷ p.1)
items_form = told_form first_item some_items (λ p. p.0 ∷ p.1) (λ p. refl) (λ p t. refl)

items_all : (n : ℕ) (z : List CaseItem) → Is some_items n z → (p : CaseItem × List CaseItem) × Is first_item n p × (p.0 ∷ p.1 ≡ z)
items_all n [] h = let e : false ≡ true = h.0 in absurd (cc)
items_all n (x ∷ xs) h = ((x, xs), h, refl)

pub items_rule : {live : Type 0} (m : ℕ) (e : ℕ × Parses Stmt) → NestedGood live m e → Rule live never some_items (λ x. x) m (spec.items e.0 e.1)
unfolding spec.items
items_rule m e good =
    shaped some_items (λ p. p.0 ∷ p.1) (λ x. x) items_form items_all
    (seq (λ i. i) (λ i xs. i ∷ xs) _ (item_rule m e good) (λ i. many begins_item (an_item.grabs i) items_repeat (item_apart i) (i ∷ []) (item_rule m e good)))

pub items_end : (xs : List CaseItem) → some_items.grabs xs (Some (word_of classes.EndCase)) ≡ false
unfolding is_class
items_end [] = refl
items_end (x ∷ xs) =
    let free : (x : CaseItem) → Apart (is classes.EndCase) (an_item.grabs x) = λ x t e. open_free (item_told x).unended (item_bare x) t (apart_of classes.EndCase classes.Else refl t e) (apart_of classes.EndCase classes.Colon refl t e) in
    at_word classes.EndCase refl _ (list_apart (is classes.EndCase) begins_item (an_item.grabs x) an_item (apart_by classes.EndCase is_item refl) (free x) free xs)
