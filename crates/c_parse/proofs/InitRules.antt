-- The parsers of declarators, and of declarations of variables, are exact.
use Rattle.std.proofs.Common.{◌≡◌, ℕ, Bool, false, ◌||◌, ◌⊎◌, List, Option, Some, refl, inl, inr}
use Rattle.dpi_grammar.specs.Parser.{and_then, expect, optional, separated}
use Rattle.dpi_grammar.proofs.Exact.{Kind, pair}
use Rattle.dpi_grammar.proofs.Rules.{Rule, never, place, one, behind, told_as, numbered, token_then, seq, mapped, last}
use Rattle.dpi_grammar.proofs.Many.{Starts, Apart, option, perhaps, commas, separate}
use Rattle.dpi_grammar.proofs.Firsts.{apart_back, in_left, in_right, or_apart, option_apart, commas_apart}
use Rattle.dpi_grammar.proofs.Choices.{either, sum, starts_off, choice}
use Rattle.dpi_lex.specs.Words.{Word}
use Rattle.c_tree.specs.declared.class.Class.TheVariants as classes
use Rattle.c_tree.specs.declared.leaves.Name.{Name}
use Rattle.c_tree.specs.declared.types.CType.{CType}
use Rattle.c_tree.specs.declared.types.Star.{Star}
use Rattle.c_tree.specs.declared.expr.CExpr.{CExpr}
use Rattle.c_tree.specs.declared.declarations.Store.{Store}
use Rattle.c_tree.specs.declared.declarations.Array.{Array}
use Rattle.c_tree.specs.declared.declarations.Init.{Init}
use Rattle.c_tree.specs.declared.declarations.Init.TheVariants as inits
use Rattle.c_tree.specs.declared.declarations.Initializer.{Initializer}
use Rattle.c_tree.specs.declared.declarations.Declarator.{Declarator}
use Rattle.c_tree.specs.declared.declarations.Variables.{Variables}
use Rattle.c_tree.specs.Classes.{word_of, is}
use Rattle.c_tree.specs.Leaves.{comma}
use Rattle.c_tree.specs.Declarations.{init_told}
use Rattle.c_tree.proofs.ClassLemmas.{knows}
use Rattle.c_cursor.specs.Reading.{Parses, name}
use Rattle.c_cursor.proofs.Tokens.{apart_of}
use Rattle.c_cursor.proofs.LeafRules.{name_rule}
use Rattle.c_types.specs.Reading.{begins_type, type_name}
use Rattle.c_types.proofs.TypeRules.{type_rule, behind_type, stars_rule, behind_stars}
use Rattle.c_parse.specs.Front.{begins_store, begins_variables}
use Rattle.c_parse.specs.ReadingDeclarations as spec
use Rattle.c_expr.specs.Front.{begins_expr}
use Rattle.c_expr.proofs.Goes.{an_expr}
use Rattle.c_expr.proofs.Frees.{expr_apart}
use Rattle.c_expr.proofs.Starts.{expr_starts}
use Rattle.c_parse.proofs.Goes.{a_store, an_array, init_grabs, an_init, an_initializer, a_declarator, some_variables}
use Rattle.c_parse.proofs.Tokens.{type_off, expr_off, type_no_store}
use Rattle.c_parse.proofs.VariableRules.{no_class, stops_at, stored_rule, array_starts, array_rule}

-- ---- what comes first

abbrev list_parts : ℕ → Kind Word (List CExpr × Unit {0})
list_parts k = behind (word_of classes.OpenBrace) (pair (commas (is classes.Comma) comma an_expr) (λ _. one (word_of classes.CloseBrace)))

abbrev an_init_list : Kind Word (ℕ × (List CExpr × Unit {0}))
an_init_list = pair (place never) list_parts

init_list_starts : Starts (is classes.OpenBrace) an_init_list
init_list_starts n x r h = (knows classes.OpenBrace refl).yes

abbrev init_made : (ℕ × (List CExpr × Unit {0})) ⊎ CExpr → Init
init_made = either (λ p. inits.List p.0 p.1.0) inits.Value

init_tells : (x : (ℕ × (List CExpr × Unit {0})) ⊎ CExpr) → init_told (init_made x) ≡ (sum an_init_list an_expr).told x
init_tells (inl p) = refl
init_tells (inr e) = refl

init_goes : (x : (ℕ × (List CExpr × Unit {0})) ⊎ CExpr) (t : Option Word) → init_grabs (init_made x) t ≡ (sum an_init_list an_expr).grabs x t
init_goes (inl p) t = refl
init_goes (inr e) t = refl

init_all : (z : Init) → (x : (ℕ × (List CExpr × Unit {0})) ⊎ CExpr) × (init_made x ≡ z)
init_all (inits.Value e) = (inr e, refl)
init_all (inits.List k es) = (inl (k, (es, tt)), refl)

init_apart : (a : Option Word → Bool) → ((e : CExpr) → Apart a (an_expr.grabs e)) → (i : Init) → Apart a (init_grabs i)
init_apart a each (inits.Value e) t go = each e t go
init_apart a each (inits.List k es) t go = refl

abbrev array_before : (Option Word → Bool) → Kind Word (Option Array)
array_before prior = option (is classes.OpenBracket) an_array prior

abbrev initializer_before : (Option Word → Bool) → Kind Word (Option Initializer)
initializer_before prior = option (is classes.Assign) an_initializer prior

initializer_starts : Starts (is classes.Assign) an_initializer
initializer_starts n x r h = (knows classes.Assign refl).yes

-- what the end of a declarator goes on with
abbrev pub declarator_tail : (Option Word → Bool) → Kind Word (Option Array × Option Initializer)
declarator_tail prior = pair (array_before prior) (λ a. initializer_before ((array_before prior).grabs a))

pub tail_apart : (a prior : Option Word → Bool) → Apart a (is classes.OpenBracket) → Apart a (is classes.Assign) → Apart a prior → ((e : CExpr) → Apart a (an_expr.grabs e))
    → (p : Option Array × Option Initializer) → Apart a ((declarator_tail prior).grabs p)
tail_apart a prior bracket assign free each p =
    option_apart a (is classes.Assign) ((array_before prior).grabs p.0) an_initializer assign
    (option_apart a (is classes.OpenBracket) prior an_array bracket free (λ x t e. refl) p.0) (λ i. init_apart a each i.value) p.1

abbrev pub declarator_of : List Star → Name → Option Array → Option Initializer → Declarator
declarator_of ss n a i = record { stars = ss; name = n; array = a; initializer = i }

pub declarator_comma : (d : Declarator) → a_declarator.grabs d (Some comma) ≡ false
declarator_comma d = tail_apart (is classes.Comma) never (apart_of classes.Comma classes.OpenBracket refl) (apart_of classes.Comma classes.Assign refl) (λ t e. refl) (expr_apart classes.Comma refl refl) (d.array, d.initializer) _ (knows classes.Comma refl).yes

pub declarator_semicolon : (d : Declarator) → Apart (is classes.Semicolon) (a_declarator.grabs d)
declarator_semicolon d = tail_apart (is classes.Semicolon) never (apart_of classes.Semicolon classes.OpenBracket refl) (apart_of classes.Semicolon classes.Assign refl) (λ t e. refl) (expr_apart classes.Semicolon refl refl) (d.array, d.initializer)

abbrev pub some_declarators : Kind Word (List Declarator)
some_declarators = commas (is classes.Comma) comma a_declarator

pub declarators_close : (ds : List Declarator) → some_declarators.grabs ds (Some (word_of classes.Semicolon)) ≡ false
declarators_close ds = stops_at classes.Semicolon refl (some_declarators.grabs ds) (commas_apart (is classes.Semicolon) (is classes.Comma) comma a_declarator (apart_of classes.Semicolon classes.Comma refl) declarator_semicolon ds)

-- what a declarator begins with
abbrev pub begins_declarator : Option Word → Bool
begins_declarator t = is classes.Star t || is classes.Name t

pub type_no_declarator : Apart begins_declarator begins_type
type_no_declarator = or_apart (is classes.Star) (is classes.Name) begins_type (type_off classes.Star refl) (type_off classes.Name refl)

module _ {live : Type 0} {d : ℕ} (e : Parses CExpr) (expr_rule : Rule live never an_expr (λ x. x) d e) where
  init_list_rule : Rule live never an_init_list (λ p. inits.List p.0 p.1.0) d (spec.init_list_by e)
  unfolding spec.init_list_by
  init_list_rule =
      numbered (λ k p. inits.List k p.0) (λ k s. and_then (expect (is classes.OpenBrace) s) (λ _ s. and_then (separated (is classes.Comma) e s) (λ xs s. and_then (expect (is classes.CloseBrace) s) (λ _ s. _))))
      (λ k. token_then (is classes.OpenBrace) (word_of classes.OpenBrace) (knows classes.OpenBrace refl) refl
      (seq (λ xs. xs) (λ xs _. inits.List k xs) (λ xs s. and_then (expect (is classes.CloseBrace) s) (λ _ s. _))
      (separate (is classes.Comma) comma (knows classes.Comma refl) (no_class classes.Comma) (λ x. stops_at classes.Comma refl (an_expr.grabs x) (expr_apart classes.Comma refl refl x)) expr_rule expr_rule)
      (λ xs. last (is classes.CloseBrace) (word_of classes.CloseBrace) (inits.List k xs) (knows classes.CloseBrace refl)
      (stops_at classes.CloseBrace refl ((commas (is classes.Comma) comma an_expr).grabs xs) (commas_apart (is classes.CloseBrace) (is classes.Comma) comma an_expr (apart_of classes.CloseBrace classes.Comma refl) (expr_apart classes.CloseBrace refl refl) xs)))))

  init_rule : Rule live never an_init (λ x. x) d (spec.init_by e)
  init_rule =
      told_as an_init init_made (λ x. x) init_tells init_goes init_all
      (choice (is classes.OpenBrace) init_list_starts (starts_off begins_expr (is classes.OpenBrace) an_expr expr_starts (apart_back (is classes.OpenBrace) begins_expr (expr_off classes.OpenBrace refl)))
      init_list_rule (mapped inits.Value expr_rule))

  initializer_rule : Rule live never an_initializer (λ x. x) d (spec.initializer_by e)
  unfolding spec.initializer_by
  initializer_rule =
      told_as an_initializer (λ (p : ℕ × Init). let i : Initializer = record { token = p.0; value = p.1 } in i) (λ x. x) (λ p. refl) (λ p t. refl) (λ i. ((i.token, i.value), refl))
      (numbered (λ k x. let i : Initializer = record { token = k; value = x } in i) (λ k s. and_then (expect (is classes.Assign) s) (λ _ s. and_then (spec.init_by e s) (λ x s. _)))
      (λ k. token_then (is classes.Assign) (word_of classes.Assign) (knows classes.Assign refl) refl (mapped (λ x. let i : Initializer = record { token = k; value = x } in i) init_rule)))

  -- behind stars and a name
  pub behind_rule : (prior : Option Word → Bool) (ss : List Star) (n : Name) → Apart (is classes.OpenBracket) prior → Apart (is classes.Assign) prior
      → Rule live prior (declarator_tail prior) (λ p. declarator_of ss n p.0 p.1) d (spec.declarator_behind e ss n)
  unfolding spec.declarator_behind
  behind_rule prior ss n bracket assign =
      seq (λ a. a) (λ a i. declarator_of ss n a i) (λ a s. and_then (optional (is classes.Assign) (spec.initializer_by e) s) (λ i s. _)) (perhaps (is classes.OpenBracket) prior array_starts bracket array_rule)
      (λ a. mapped (λ i. declarator_of ss n a i) (perhaps (is classes.Assign) ((array_before prior).grabs a) initializer_starts
      (option_apart (is classes.Assign) (is classes.OpenBracket) prior an_array (apart_of classes.Assign classes.OpenBracket refl) assign (λ x t e. refl) a) initializer_rule))

  pub declarator_rule : {before : Option Word → Bool} → Apart begins_declarator before → Rule live before a_declarator (λ x. x) d (spec.declarator_by e)
  unfolding spec.declarator_by
  declarator_rule {before = before} apart =
      told_as a_declarator (λ (p : List Star × (Name × (Option Array × Option Initializer))). declarator_of p.0 p.1.0 p.1.1.0 p.1.1.1) (λ x. x) (λ p. refl) (λ p t. refl) (λ x. ((x.stars, (x.name, (x.array, x.initializer))), refl))
      (seq (λ ss. ss) (λ ss p. declarator_of ss p.0 p.1.0 p.1.1) (λ ss s. and_then (name s) (λ n. spec.declarator_behind e ss n)) (stars_rule (λ t go. apart t (in_left (is classes.Star t) (is classes.Name t) go)))
      (λ ss. seq (λ n. n) (λ n p. declarator_of ss n p.0 p.1) (λ n. spec.declarator_behind e ss n)
      (name_rule (behind_stars (is classes.Name) before (apart_of classes.Name classes.Star refl) (apart_of classes.Name classes.Const refl) (λ t go. apart t (in_right (is classes.Star t) (is classes.Name t) go)) ss))
      (λ n. behind_rule (λ t. false) ss n (λ t go. refl) (λ t go. refl))))

  pub declarators_rule : {before : Option Word → Bool} → Apart begins_declarator before → Rule live before some_declarators (λ x. x) d (spec.declarators_by e)
  declarators_rule apart = separate (is classes.Comma) comma (knows classes.Comma refl) (no_class classes.Comma) declarator_comma (declarator_rule (λ t go. refl)) (declarator_rule apart)

  pub variables_rule : {before : Option Word → Bool} → Apart begins_variables before → Rule live before some_variables (λ x. x) d (spec.variables_by e)
  unfolding spec.variables_by
  variables_rule {before = before} apart =
      told_as some_variables (λ (p : Option Store × (CType × (List Declarator × Unit {0}))). let v : Variables = record { store = p.0; kind = p.1.0; declarators = p.1.1.0 } in v) (λ x. x) (λ p. refl) (λ p t. refl) (λ v. ((v.store, (v.kind, (v.declarators, tt))), refl))
      (seq (λ o. o) (λ o p. let v : Variables = record { store = o; kind = p.0; declarators = p.1.0 } in v) (λ o s. and_then (type_name s) (λ t s. and_then (spec.declarators_by e s) (λ ds s. and_then (expect (is classes.Semicolon) s) (λ _ s. _))))
      (stored_rule (λ t go. apart t (in_left (begins_store t) (begins_type t) go)))
      (λ o. seq (λ t. t) (λ t p. let v : Variables = record { store = o; kind = t; declarators = p.0 } in v) (λ t s. and_then (spec.declarators_by e s) (λ ds s. and_then (expect (is classes.Semicolon) s) (λ _ s. _)))
      (type_rule (option_apart begins_type begins_store before a_store type_no_store (λ t go. apart t (in_right (begins_store t) (begins_type t) go)) (λ x t go. refl) o))
      (λ t. seq (λ ds. ds) (λ ds _. let v : Variables = record { store = o; kind = t; declarators = ds } in v) (λ ds s. and_then (expect (is classes.Semicolon) s) (λ _ s. _))
      (declarators_rule (behind_type begins_declarator type_no_declarator t))
      (λ ds. last (is classes.Semicolon) (word_of classes.Semicolon) (record { store = o; kind = t; declarators = ds }) (knows classes.Semicolon refl) (declarators_close ds)))))
