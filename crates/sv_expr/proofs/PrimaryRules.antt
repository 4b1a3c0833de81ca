-- The parser of primaries is exact: one of several kinds, by the first token.
use Rattle.std.proofs.Common.{◌≡◌, ℕ, ◌⊎◌, Bool, true, List, ◌++◌, Option, Some, Ok, refl, sym, ap, ◌∙◌, subst, inl, inr}
use Rattle.dpi_grammar.specs.Told.{◌&◌, noted, deeper, IsRight}
use Rattle.dpi_grammar.specs.Parser.{State, and_then, first, refuse}
use Rattle.dpi_grammar.proofs.Lists.{true_not_false}
use Rattle.dpi_grammar.proofs.Exact.{Kind, words, Is, Exact, pair}
use Rattle.dpi_grammar.proofs.Forms.{told_form, Only, only_told, formed, none_begins, within}
use Rattle.dpi_grammar.proofs.Rules.{Rule, never, Inside, mapped, numbered, place, last, one, one_deeper}
use Rattle.dpi_grammar.proofs.Many.{and_assoc}
use Rattle.dpi_lex.specs.Words.{Word}
use Rattle.sv_tree.specs.declared.class.Class.TheVariants as classes
use Rattle.sv_tree.specs.declared.leaves.Name.{Name}
use Rattle.sv_tree.specs.declared.leaves.Number.{Number}
use Rattle.sv_tree.specs.declared.leaves.Text.{Text}
use Rattle.sv_tree.specs.declared.expr.Expr.{Expr}
use Rattle.sv_tree.specs.declared.expr.Select.{Select}
use Rattle.sv_tree.specs.declared.expr.Primary.{Primary, out-Primary, roll-Primary, roll-out-Primary}
use Rattle.sv_tree.specs.declared.expr.Primary.TheVariants as forms
use Rattle.sv_tree.specs.declared.expr.Primary.TheOpen.{Primary-F}
use Rattle.sv_tree.specs.declared.expr.Call.{Call, out-Call, roll-out-Call}
use Rattle.sv_tree.specs.declared.expr.Lvalue.{Lvalue, out-Lvalue, roll-out-Lvalue}
use Rattle.sv_tree.specs.Classes.{class_at, is, word_of}
use Rattle.sv_tree.specs.Expressions.{Tells, quoted, expr_told}
use Rattle.sv_tree.proofs.ClassLemmas.{knows, is_fixed, when_class}
use Rattle.sv_cursor.specs.Reading.{number, text}
use Rattle.sv_cursor.proofs.LeafRules.{a_number, a_text, number_rule, text_rule}
use Rattle.sv_expr.specs.declared.front.Front.{Front}
use Rattle.sv_expr.specs.declared.front.Front.TheVariants as fronts
use Rattle.sv_expr.specs.declared.front.Wrap.{Wrap}
use Rattle.sv_expr.specs.declared.front.Wrap.TheVariants as wraps
use Rattle.sv_expr.specs.Front.{front_of, is_some_front}
use Rattle.sv_expr.specs.Bounds.{Layer}
use Rattle.sv_expr.specs.Reading as spec
use Rattle.sv_expr.proofs.Goes.{a_primary}
use Rattle.sv_expr.proofs.Trees.{primary_tells}
use Rattle.sv_expr.proofs.Operators.{front_class, front_says}
use Rattle.sv_expr.proofs.Starts.{class_in, primary_class, primary_fronts, number_viable}
use Rattle.sv_expr.proofs.Frees.{primary_grabs_are}
use Rattle.sv_expr.proofs.PartRules.{Good, no_expr, a_wrap, wrap_by_rule}
use Rattle.sv_expr.proofs.PlaceRules.{named, name_made, named_tells, named_form, named_rule}
use Rattle.sv_expr.proofs.BraceRules.{braces, braces_made, braces_form, braces_by_rule, came_from}

-- ---- what a first token tells of a primary

-- what the first token says of a primary that goes on so
front_is : (t : Option Word) (n : ℕ) (z : Primary) (r : List Word) → Is a_primary n z → first (words a_primary z ++ r) ≡ t → front_of (Some (class_in (out-Primary z))) ≡ front_of (class_at t)
front_is t n z r h same = ap front_of (sym (primary_class n z r h) ∙ ap class_at same)

-- the layer of a primary that begins as a front says
abbrev Layered : Front → {X : Type 0} → (X → Primary) → Type 0
Layered f {X = X} make = (l : Layer) (z : Primary) → front_of (Some (class_in l)) ≡ f → roll-Primary l ≡ z → (x : X) × (make x ≡ z)

-- a primary that begins with such a token is of that form
by_layer : {X : Type 0} (S : Kind Word X) (make : X → Primary) → ((x : X) → a_primary.told (make x) ≡ S.told x) → (f : Front) → Layered f make → (t : Option Word) → front_of (class_at t) ≡ f → Only S a_primary make t
by_layer S make told f layered t e = only_told S a_primary make told t (λ n z r h g same. layered (out-Primary z) z (front_is t n z r h same ∙ e) (roll-out-Primary z))

-- ---- numbers, strings and null

number_tells : (m : Number) → a_primary.told (forms.Number m) ≡ a_number.told m
number_tells m = primary_tells (forms.Number m) _ (forms.outs-Number m)

number_layer : Layered fronts.Number forms.Number
number_layer (Primary-F.Number m) z f e = (m, sym (forms.rolls-Number m) ∙ e)
number_layer _ z f e = absurd (cc)

text_tells : (m : Text) → a_primary.told (forms.Text m) ≡ a_text.told m
text_tells m = primary_tells (forms.Text m) _ (forms.outs-Text m)

text_layer : Layered fronts.Text forms.Text
text_layer (Primary-F.Text m) z f e = (m, sym (forms.rolls-Text m) ∙ e)
text_layer _ z f e = absurd (cc)

abbrev a_null : Kind Word (ℕ × Unit {0})
a_null = pair (place never) (λ _. one (word_of classes.Null))

abbrev null_made : ℕ × Unit {0} → Primary
null_made p = forms.Null p.0

null_tells : (p : ℕ × Unit {0}) → a_primary.told (null_made p) ≡ a_null.told p
null_tells p = primary_tells (forms.Null p.0) _ (forms.outs-Null p.0)

null_layer : Layered fronts.Null null_made
null_layer (Primary-F.Null k) z f e = ((k, tt), sym (forms.rolls-Null k) ∙ e)
null_layer _ z f e = absurd (cc)

null_rule : {live : Type 0} {d : ℕ} → Rule live never a_null null_made d spec.null
unfolding spec.null
null_rule = numbered (λ k _. forms.Null k) _ (λ k. last (is classes.Null) (word_of classes.Null) (forms.Null k) (knows classes.Null refl) refl)

-- ---- what begins with a name

place_from : (l : Lvalue) (z : Primary) → forms.Place l ≡ z → (x : Name × ((ℕ × List Expr) ⊎ List Select)) × (name_made x ≡ z)
place_from l z e = (((out-Lvalue l).name, inr (out-Lvalue l).selects), ap forms.Place (roll-out-Lvalue l) ∙ e)

call_from : (c : Call) (z : Primary) → forms.Call c ≡ z → (x : Name × ((ℕ × List Expr) ⊎ List Select)) × (name_made x ≡ z)
call_from c z e = (((out-Call c).name, inl ((out-Call c).token, (out-Call c).actuals)), ap forms.Call (roll-out-Call c) ∙ e)

name_layer : Layered fronts.Name name_made
name_layer (Primary-F.Place l) z f e = place_from l z (sym (forms.rolls-Place l) ∙ e)
name_layer (Primary-F.Call c) z f e = call_from c z (sym (forms.rolls-Call c) ∙ e)
name_layer _ z f e = absurd (cc)

-- ---- parentheses

abbrev Wrapped : Type 0
Wrapped = ℕ × (Unit {0} × (Expr × Unit {0}))

abbrev wrap_made : Wrap → Wrapped → Primary
wrap_made w p = spec.wrapped w p.0 p.1.1.0

wrap_tells : (w : Wrap) (p : Wrapped) → a_primary.told (wrap_made w p) ≡ (within (a_wrap w)).told p
wrap_tells wraps.Group p = primary_tells (forms.Group p.0 p.1.1.0) _ (forms.outs-Group p.0 p.1.1.0)
wrap_tells wraps.Signed p = primary_tells (forms.Signed p.0 p.1.1.0) _ (forms.outs-Signed p.0 p.1.1.0)
    ∙ ap (λ (t : Tells). deeper (noted p.0 & t)) (sym (and_assoc (quoted classes.ToSigned) (quoted classes.OpenParen) (expr_told p.1.1.0 & quoted classes.CloseParen)))
wrap_tells wraps.Unsigned p = primary_tells (forms.Unsigned p.0 p.1.1.0) _ (forms.outs-Unsigned p.0 p.1.1.0)
    ∙ ap (λ (t : Tells). deeper (noted p.0 & t)) (sym (and_assoc (quoted classes.ToUnsigned) (quoted classes.OpenParen) (expr_told p.1.1.0 & quoted classes.CloseParen)))

wrap_grabs : (w : Wrap) (p : Wrapped) (t : Option Word) → a_primary.grabs (wrap_made w p) t ≡ (within (a_wrap w)).grabs p t
wrap_grabs wraps.Group p t = primary_grabs_are (forms.Group p.0 p.1.1.0) _ (forms.outs-Group p.0 p.1.1.0) t
wrap_grabs wraps.Signed p t = primary_grabs_are (forms.Signed p.0 p.1.1.0) _ (forms.outs-Signed p.0 p.1.1.0) t
wrap_grabs wraps.Unsigned p t = primary_grabs_are (forms.Unsigned p.0 p.1.1.0) _ (forms.outs-Unsigned p.0 p.1.1.0) t

wrap_layer : (w : Wrap) → Layered (fronts.Wrapped w) (wrap_made w)
wrap_layer wraps.Group (Primary-F.Group k x) z f e = ((k, (tt, (x, tt))), sym (forms.rolls-Group k x) ∙ e)
wrap_layer wraps.Signed (Primary-F.Signed k x) z f e = ((k, (tt, (x, tt))), sym (forms.rolls-Signed k x) ∙ e)
wrap_layer wraps.Unsigned (Primary-F.Unsigned k x) z f e = ((k, (tt, (x, tt))), sym (forms.rolls-Unsigned k x) ∙ e)
wrap_layer _ _ z f e = absurd (cc)

wrap_starts : (w : Wrap) (n : ℕ) (p : Wrapped) (r : List Word) → first (words (a_wrap w) p ++ r) ≡ Some (word_of (front_class (fronts.Wrapped w)))
wrap_starts wraps.Group n p r = refl
wrap_starts wraps.Signed n p r = refl
wrap_starts wraps.Unsigned n p r = refl

wrap_fixed : (w : Wrap) → is_fixed (front_class (fronts.Wrapped w)) ≡ true
wrap_fixed wraps.Group = refl
wrap_fixed wraps.Signed = refl
wrap_fixed wraps.Unsigned = refl

-- the token itself, where its class has one word
token_is : (t : Option Word) (f : Front) → front_of (class_at t) ≡ f → is_some_front f ≡ true → is_fixed (front_class f) ≡ true → t ≡ Some (word_of (front_class f))
token_is t f e some fixed = (knows (front_class f) fixed).says t (when_class (front_class f) t (front_says (class_at t) f e some))

-- ---- primaries

none_there : (s : State Word) → front_of (class_at (first s.rest)) ≡ fronts.Other → (n : ℕ) (z : Primary) (r : List Word) → Is a_primary n z → first (words a_primary z ++ r) ≡ first s.rest → ⊥
none_there s e n z r is_it same = true_not_false (is_some_front fronts.Other) (ap is_some_front (sym e) ∙ ap (λ t. is_some_front (front_of (class_at t))) (sym same) ∙ primary_fronts n z r is_it) refl

module _ (d : ℕ) (inner : spec.Inner) (h : Inside Good d inner) where
  primary_by : (s : State Word) (f : Front) → front_of (class_at (first s.rest)) ≡ f → Exact a_primary (λ x. x) d s (spec.primary_by inner f s)
  primary_by s fronts.Number e =
      let k : Rule (Unit {0}) never a_number (λ m. forms.Number m) d (λ s. and_then (number s) (λ m s. Ok (forms.Number m, s))) = mapped forms.Number (number_rule (λ t e. refl)) in
      formed a_number a_primary forms.Number (told_form a_number a_primary forms.Number number_tells (λ m t. primary_grabs_are (forms.Number m) _ (forms.outs-Number m) t)) (λ x. x) d s _
      (by_layer a_number forms.Number number_tells fronts.Number number_layer (first s.rest) e) (k.exact tt s refl)
  primary_by s fronts.Text e =
      let k : Rule (Unit {0}) never a_text (λ m. forms.Text m) d (λ s. and_then (text s) (λ m s. Ok (forms.Text m, s))) = mapped forms.Text (text_rule (λ t e. refl)) in
      formed a_text a_primary forms.Text (told_form a_text a_primary forms.Text text_tells (λ m t. primary_grabs_are (forms.Text m) _ (forms.outs-Text m) t)) (λ x. x) d s _
      (by_layer a_text forms.Text text_tells fronts.Text text_layer (first s.rest) e) (k.exact tt s refl)
  primary_by s fronts.Null e =
      let k : Rule (Unit {0}) never a_null null_made d spec.null = null_rule in
      formed a_null a_primary null_made (told_form a_null a_primary null_made null_tells (λ p t. primary_grabs_are (forms.Null p.0) _ (forms.outs-Null p.0) t)) (λ x. x) d s _
      (by_layer a_null null_made null_tells fronts.Null null_layer (first s.rest) e) (k.exact tt s refl)
  primary_by s fronts.Name e =
      formed named a_primary name_made named_form (λ x. x) d s _
      (by_layer named name_made named_tells fronts.Name name_layer (first s.rest) e) ((named_rule d inner h).exact tt s refl)
  primary_by s (fronts.Wrapped w) e =
      one_deeper Good (a_wrap w) a_primary (wrap_made w) (told_form (within (a_wrap w)) a_primary (wrap_made w) (wrap_tells w) (wrap_grabs w)) (λ x. x) (λ e. spec.wrap_by e w) (λ live m e good. wrap_by_rule good w)
      refuse no_expr (number_viable 0) d inner h s (λ n p r i. wrap_starts w n p r ∙ sym (token_is (first s.rest) (fronts.Wrapped w) e refl (wrap_fixed w)))
      (by_layer (within (a_wrap w)) (wrap_made w) (wrap_tells w) (fronts.Wrapped w) (wrap_layer w) (first s.rest) e)
  primary_by s fronts.Braces e =
      one_deeper Good braces a_primary braces_made braces_form (λ x. x) spec.braces_by (λ live m e good. braces_by_rule good)
      refuse no_expr (number_viable 0) d inner h s (λ n p r i. sym (token_is (first s.rest) fronts.Braces e refl refl))
      (λ n z r i g same. came_from n (out-Primary z) z (front_is (first s.rest) n z r i same ∙ e) (roll-out-Primary z) (subst (λ (t : Tells). IsRight n t.atoms) (primary_tells z (out-Primary z) refl) i))
  primary_by s fronts.Other e = none_begins a_primary (λ x. x) d s (number_viable d s.place) (λ n z r i g same. none_there s e n z r i same)

  pub primary_rule : Rule (Unit {0}) never a_primary (λ x. x) d (spec.primary inner)
  unfolding spec.primary
  primary_rule = record { exact = λ l s b. primary_by s (front_of (class_at (first s.rest))) refl; closes = number_viable d; keeps = λ n z r i g. refl }
