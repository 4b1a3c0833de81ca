-- The parser of selects is exact.
use Rattle.std.proofs.Common.{◌≡◌, ℕ, ◌+◌, Bool, true, false, ◌⊎◌, List, [], ◌∷◌, ◌++◌, length, Option, Some, None, Ok, if◌then◌else◌, refl, sym, ap, ◌∙◌, subst, arith, inl, inr}
use Rattle.dpi_grammar.specs.Told.{Atom, must, says, ◌&◌, kept, words_in, IsRight}
use Rattle.dpi_grammar.specs.Parser.{and_then, expect, first, is_there, refuse}
use Rattle.dpi_grammar.proofs.Lists.{words_append, right_split, right_join}
use Rattle.dpi_grammar.proofs.Exact.{Kind, words, levels, Is, pair}
use Rattle.dpi_grammar.proofs.Forms.{Form, within}
use Rattle.dpi_grammar.proofs.Rules.{Rule, never, Inside, seq, shaped, numbered, place, token_then, last, one, behind}
use Rattle.dpi_grammar.proofs.Many.{Apart, Starts, list}
use Rattle.dpi_grammar.proofs.Deeper.{deeper_rule, Opens, many_deeper}
use Rattle.dpi_grammar.proofs.Choices.{either, sum, Off, starts_off}
use Rattle.dpi_lex.specs.Words.{Word}
use Rattle.sv_tree.specs.declared.class.Class.{Class}
use Rattle.sv_tree.specs.declared.class.Class.TheVariants as classes
use Rattle.sv_tree.specs.declared.leaves.Number.{Number}
use Rattle.sv_tree.specs.declared.leaves.Bound.{Bound}
use Rattle.sv_tree.specs.declared.expr.Expr.{Expr}
use Rattle.sv_tree.specs.declared.expr.Select.{Select, out-Select, roll-Select, roll-out-Select}
use Rattle.sv_tree.specs.declared.expr.Select.TheVariants as select_forms
use Rattle.sv_tree.specs.declared.expr.Primary.TheOpen.{Select-F}
use Rattle.sv_tree.specs.Classes.{is_class, is, word_of}
use Rattle.sv_tree.specs.Expressions.{Tells, expr_told, bound_told, select_told}
use Rattle.sv_tree.proofs.ClassLemmas.{is_fixed, knows}
use Rattle.sv_cursor.specs.Reading.{Parses, number}
use Rattle.sv_cursor.proofs.Tokens.{apart_of}
use Rattle.sv_cursor.proofs.LeafRules.{a_number, a_bound, number_rule, bound_rule}
use Rattle.sv_expr.specs.Bounds.{bound_of}
use Rattle.sv_expr.specs.Reading as spec
use Rattle.sv_expr.proofs.Goes.{a_select, an_expr}
use Rattle.sv_expr.proofs.Trees.{SelectLayer, select_layer_told, select_tells}
use Rattle.sv_expr.proofs.Starts.{select_starts, select_high}
use Rattle.sv_expr.proofs.Frees.{stops, expr_stops}
use Rattle.sv_expr.proofs.Alternatives.{lively, if_rule, Empty, or_refuse}
use Rattle.sv_expr.proofs.PartRules.{Good, no_expr}
use Rattle.sv_expr.proofs.BoundTrees.{TellsAs, bound_as, bound_expr, bound_back, bound_is}

-- ---- kinds

abbrev a_bracket : Word
a_bracket = word_of classes.OpenBracket

-- "]"
abbrev a_close : Kind Word (Unit {0})
a_close = one (word_of classes.CloseBracket)

-- a number behind the token of that class, and "]"
abbrev with_width : Class → Kind Word (Number × Unit {0})
with_width c = behind (word_of c) (pair a_number (λ _. a_close))

-- ":" bound "]"
abbrev to_right : Kind Word (Bound × Unit {0})
to_right = behind (word_of classes.Colon) (pair a_bound (λ _. a_close))

-- the same, where it may stand
abbrev right_if : Bool → Kind Word (Bound × Unit {0})
right_if b = record { told = λ p. kept b & to_right.told p; grabs = λ _ _. false }

abbrev Tail : Type 0
Tail = Unit {0} ⊎ ((Number × Unit {0}) ⊎ ((Number × Unit {0}) ⊎ (Bound × Unit {0})))

abbrev down_or_range : Bool → Kind Word ((Number × Unit {0}) ⊎ (Bound × Unit {0}))
down_or_range b = sum (with_width classes.MinusColon) (right_if b)

abbrev up_or_more : Bool → Kind Word ((Number × Unit {0}) ⊎ ((Number × Unit {0}) ⊎ (Bound × Unit {0})))
up_or_more b = sum (with_width classes.PlusColon) (down_or_range b)

-- what ends a select, where only a bound may stand before a ":"
abbrev a_tail : Bool → Kind Word Tail
a_tail b = sum a_close (up_or_more b)

abbrev ranged : ℕ → Option Bound → Bound → Select
ranged k (Some a) b = select_forms.Range k a b
ranged k None b = select_forms.Range k b b

abbrev tailed : ℕ → Expr → Option Bound → Tail → Select
tailed k x o = either (λ _. select_forms.Index k x) (either (λ p. select_forms.Up k x p.0) (either (λ p. select_forms.Down k x p.0) (λ p. ranged k o p.0)))

-- "[" and an expression, and a tail
abbrev flat_select : Kind Word (ℕ × (Expr × Tail))
flat_select = pair (place never) (λ _. behind a_bracket (pair an_expr (λ x. a_tail (is_there (bound_of x)))))

abbrev made : ℕ × (Expr × Tail) → Select
made z = tailed z.0 z.1.0 (bound_of z.1.0) z.1.1

-- ---- the tail

fixed_starts : {X : Type 0} (c : Class) → is_fixed c ≡ true → (K : Kind Word X) → Starts (is c) (behind (word_of c) K)
fixed_starts c fixed K n x r h = (knows c fixed).yes

right_if_starts : (b : Bool) → Starts (is classes.Colon) (right_if b)
right_if_starts b n x r h = (knows classes.Colon refl).yes

down_off : (c : Class) → Apart (is classes.MinusColon) (is c) → Apart (is classes.Colon) (is c) → (b : Bool) → Off (is c) (down_or_range b)
down_off c p q b n (inl x) r h g = p (first (words (down_or_range b) (inl x) ++ r)) (fixed_starts classes.MinusColon refl (pair a_number (λ _. a_close)) n x r h)
down_off c p q b n (inr x) r h g = q (first (words (down_or_range b) (inr x) ++ r)) (right_if_starts b n x r h)

up_off : (c : Class) → Apart (is classes.PlusColon) (is c) → Apart (is classes.MinusColon) (is c) → Apart (is classes.Colon) (is c) → (b : Bool) → Off (is c) (up_or_more b)
up_off c o p q b n (inl x) r h g = o (first (words (up_or_more b) (inl x) ++ r)) (fixed_starts classes.PlusColon refl (pair a_number (λ _. a_close)) n x r h)
up_off c o p q b n (inr x) r h g = down_off c p q b n x r h g

close_starts : Starts (is classes.CloseBracket) a_close
close_starts n x r h = (knows classes.CloseBracket refl).yes

no_range : Empty (right_if false)
no_range n p h = let bad : false ≡ true = h.0 in absurd (cc)

right_form : Form to_right (right_if true) (λ p. p)
right_form = record { tells = λ n p h. refl; levels_are = λ n p h. omega arith; is = λ n p h. (refl, h); grabs = λ n p t h. refl }

module _ {live : Type 0} {d : ℕ} (before : Option Word → Bool) (free : (c : Class) → is_fixed c ≡ true → stops c ≡ false → before (Some (word_of c)) ≡ false) where
  width_rule : {Z : Type 0} (c : Class) (fixed : is_fixed c ≡ true) → stops c ≡ false → (make : Number → Z)
      → Rule live before (with_width c) (λ p. make p.0) d (λ s. and_then (expect (is c) s) (λ _ s. and_then (number s) (λ n s. and_then (expect (is classes.CloseBracket) s) (λ _ s. Ok (make n, s)))))
  width_rule c fixed stop make = token_then (is c) (word_of c) (knows c fixed) (free c fixed stop)
      (seq (λ n. n) (λ n _. make n) _ (number_rule (λ t e. refl)) (λ n. last (is classes.CloseBracket) (word_of classes.CloseBracket) (make n) (knows classes.CloseBracket refl) refl))

  range_rule : (k : ℕ) (a : Bound) → Rule live before (right_if true) (λ p. select_forms.Range k a p.0) d (spec.range_behind k (Some a))
  range_rule k a = shaped (right_if true) (λ p. p) (λ p. select_forms.Range k a p.0) right_form (λ n p h. (p, h.1, refl))
      (token_then (is classes.Colon) (word_of classes.Colon) (knows classes.Colon refl) (free classes.Colon refl refl)
      (seq (λ b. b) (λ b _. select_forms.Range k a b) _ (bound_rule (λ t e. refl)) (λ b. last (is classes.CloseBracket) (word_of classes.CloseBracket) (select_forms.Range k a b) (knows classes.CloseBracket refl) refl)))

  down_rule : (k : ℕ) (x : Expr) (o : Option Bound) → Rule live before (down_or_range (is_there o)) (either (λ p. select_forms.Down k x p.0) (λ p. ranged k o p.0)) d
      (λ s. if is classes.MinusColon (first s.rest) then spec.down_tail k x s else spec.range_behind k o s)
  unfolding spec.down_tail
  down_rule k x None = or_refuse (is classes.MinusColon) before (with_width classes.MinusColon) (right_if false) (fixed_starts classes.MinusColon refl (pair a_number (λ _. a_close))) no_range
      (width_rule classes.MinusColon refl refl (λ n. select_forms.Down k x n))
  down_rule k x (Some a) = if_rule (is classes.MinusColon) (fixed_starts classes.MinusColon refl (pair a_number (λ _. a_close)))
      (starts_off (is classes.Colon) (is classes.MinusColon) (right_if true) (right_if_starts true) (apart_of classes.Colon classes.MinusColon refl))
      (width_rule classes.MinusColon refl refl (λ n. select_forms.Down k x n)) (range_rule k a)

  tail_rule : (k : ℕ) (x : Expr) → Rule live before (a_tail (is_there (bound_of x))) (tailed k x (bound_of x)) d (spec.select_tail k x)
  unfolding spec.select_tail spec.index_tail spec.up_tail spec.range_tail
  tail_rule k x =
      let b = is_there (bound_of x) in
      if_rule (is classes.CloseBracket) close_starts
      (up_off classes.CloseBracket (apart_of classes.PlusColon classes.CloseBracket refl) (apart_of classes.MinusColon classes.CloseBracket refl) (apart_of classes.Colon classes.CloseBracket refl) b)
      (last (is classes.CloseBracket) (word_of classes.CloseBracket) (select_forms.Index k x) (knows classes.CloseBracket refl) (free classes.CloseBracket refl refl))
      (if_rule (is classes.PlusColon) (fixed_starts classes.PlusColon refl (pair a_number (λ _. a_close)))
      (down_off classes.PlusColon (apart_of classes.MinusColon classes.PlusColon refl) (apart_of classes.Colon classes.PlusColon refl) b)
      (width_rule classes.PlusColon refl refl (λ n. select_forms.Up k x n)) (down_rule k x (bound_of x)))

flat_rule : {live : Type 0} {d : ℕ} {e : Parses Expr} → Good live d e → Rule live never flat_select made d (spec.select_by e)
unfolding spec.select_by
flat_rule {e = e} good = numbered (λ k p. tailed k p.0 (bound_of p.0) p.1) (λ k s. and_then (expect (is classes.OpenBracket) s) (λ _ s. and_then (e s) (λ x. spec.select_tail k x)))
    (λ k. token_then (is classes.OpenBracket) a_bracket (knows classes.OpenBracket refl) refl
    (seq (λ x. x) (λ x w. tailed k x (bound_of x) w) (λ x. spec.select_tail k x) good (λ x. tail_rule (an_expr.grabs x) (λ c fixed stop. expr_stops c fixed stop x) k x)))

-- ---- selects

there : (o : Option Bound) → is_there o ≡ true → (a : Bound) × (o ≡ Some a)
there (Some a) e = (a, refl)
there None e = let bad : false ≡ true = e in absurd (cc)

-- what follows the left bound of a range
abbrev right_atoms : Bound → List (Atom Word)
right_atoms b = says (word_of classes.Colon) ∷ ((bound_told b).atoms ++ says (word_of classes.CloseBracket) ∷ [])

abbrev in_range : ℕ → Expr → Bound → ℕ × (Expr × Tail)
in_range k x b = (k, (x, inr (inr (inr (b, tt)))))

-- a range that was read, and its left bound
record Left (n : ℕ) (k : ℕ) (x : Expr) (b : Bound) : Type 0 where
  pub left : Bound
  pub bound : bound_of x ≡ Some left
  pub right : IsRight (n + 1 + length (words an_expr x)) (right_atoms b)
  pub begins : k ≡ n
  pub tells : TellsAs (n + 1) (expr_told x) (bound_told left)

left_of : (n k : ℕ) (x : Expr) (b : Bound) → Is flat_select n (in_range k x b) → Left n k x b
left_of n k x b h =
    let s = right_split (n + 1) (n + 1 + length (words an_expr x)) (expr_told x).atoms (must (is_there (bound_of x)) ∷ right_atoms b) refl h.1 in
    let a = there (bound_of x) s.1.0 in
    record { left = a.0; bound = a.1; right = s.1.1; begins = h.0; tells = bound_as (n + 1) x a.0 a.1 s.0 }

range_words : (n k : ℕ) (x : Expr) (b : Bound) → Left n k x b → words a_select (made (in_range k x b)) ≡ words flat_select (in_range k x b)
range_words n k x b l =
    ap (λ o. words a_select (ranged k o b)) l.bound ∙ ap (λ (t : Tells). words_in t.atoms) (select_tells (select_forms.Range k l.left b) _ (select_forms.outs-Range k l.left b))
    ∙ ap (λ w. a_bracket ∷ w) (words_append (bound_told l.left).atoms (right_atoms b) ∙ ap (λ w. w ++ words_in (right_atoms b)) (sym l.tells.words_same)
    ∙ sym (words_append (expr_told x).atoms (must (is_there (bound_of x)) ∷ right_atoms b)))

range_levels : (n k : ℕ) (x : Expr) (b : Bound) → Left n k x b → levels a_select (made (in_range k x b)) ≡ levels (within flat_select) (in_range k x b)
range_levels n k x b l =
    let e = ap (λ o. levels a_select (ranged k o b)) l.bound ∙ ap (λ (t : Tells). t.levels) (select_tells (select_forms.Range k l.left b) _ (select_forms.outs-Range k l.left b)) in
    omega (arith, e, l.tells.levels_same)

range_is : (n k : ℕ) (x : Expr) (b : Bound) → Left n k x b → Is a_select n (made (in_range k x b))
range_is n k x b l =
    let back = ap (λ o. select_told (ranged k o b)) l.bound ∙ select_tells (select_forms.Range k l.left b) _ (select_forms.outs-Range k l.left b) in
    subst (λ (t : Tells). IsRight n t.atoms) (sym back)
    (l.begins, right_join (n + 1) (n + 1 + length (words an_expr x)) (bound_told l.left).atoms (right_atoms b) (omega (arith, ap length l.tells.words_same)) l.tells.right l.right)

made_words : (n : ℕ) (z : ℕ × (Expr × Tail)) → Is flat_select n z → words a_select (made z) ≡ words flat_select z
made_words n (k, (x, inl u)) h = ap (λ (t : Tells). words_in t.atoms) (select_tells (select_forms.Index k x) _ (select_forms.outs-Index k x))
made_words n (k, (x, inr (inl p))) h = ap (λ (t : Tells). words_in t.atoms) (select_tells (select_forms.Up k x p.0) _ (select_forms.outs-Up k x p.0))
made_words n (k, (x, inr (inr (inl p)))) h = ap (λ (t : Tells). words_in t.atoms) (select_tells (select_forms.Down k x p.0) _ (select_forms.outs-Down k x p.0))
made_words n (k, (x, inr (inr (inr p)))) h = range_words n k x p.0 (left_of n k x p.0 h)

made_levels : (n : ℕ) (z : ℕ × (Expr × Tail)) → Is flat_select n z → levels a_select (made z) ≡ levels (within flat_select) z
made_levels n (k, (x, inl u)) h = ap (λ (t : Tells). t.levels) (select_tells (select_forms.Index k x) _ (select_forms.outs-Index k x))
made_levels n (k, (x, inr (inl p))) h = ap (λ (t : Tells). t.levels) (select_tells (select_forms.Up k x p.0) _ (select_forms.outs-Up k x p.0))
made_levels n (k, (x, inr (inr (inl p)))) h = ap (λ (t : Tells). t.levels) (select_tells (select_forms.Down k x p.0) _ (select_forms.outs-Down k x p.0))
made_levels n (k, (x, inr (inr (inr p)))) h = range_levels n k x p.0 (left_of n k x p.0 h)

told_is : (n : ℕ) (a b : Tells) → a ≡ b → IsRight n b.atoms → IsRight n a.atoms
told_is n a b e h = subst (λ (t : Tells). IsRight n t.atoms) (sym e) h

made_is : (n : ℕ) (z : ℕ × (Expr × Tail)) → Is flat_select n z → Is a_select n (made z)
made_is n (k, (x, inl u)) h = told_is n _ _ (select_tells (select_forms.Index k x) _ (select_forms.outs-Index k x)) h
made_is n (k, (x, inr (inl p))) h = told_is n _ _ (select_tells (select_forms.Up k x p.0) _ (select_forms.outs-Up k x p.0)) h
made_is n (k, (x, inr (inr (inl p)))) h = told_is n _ _ (select_tells (select_forms.Down k x p.0) _ (select_forms.outs-Down k x p.0)) h
made_is n (k, (x, inr (inr (inr p)))) h = range_is n k x p.0 (left_of n k x p.0 h)

made_grabs : (z : ℕ × (Expr × Tail)) (t : Option Word) → false ≡ flat_select.grabs z t
made_grabs (k, (x, inl u)) t = refl
made_grabs (k, (x, inr (inl p))) t = refl
made_grabs (k, (x, inr (inr (inl p)))) t = refl
made_grabs (k, (x, inr (inr (inr p)))) t = refl

select_form : Form (within flat_select) a_select made
select_form = record { tells = made_words; levels_are = made_levels; is = made_is; grabs = λ n z t h. made_grabs z t }

abbrev Came : ℕ → Select → Type 0
Came n z = (x : ℕ × (Expr × Tail)) × Is (within flat_select) n x × (made x ≡ z)

came_from : (n : ℕ) (l : SelectLayer) (z : Select) → roll-Select l ≡ z → IsRight n (select_layer_told l).atoms → Came n z
came_from n (Select-F.Index k x) z e h = ((k, (x, inl tt)), h, sym (select_forms.rolls-Index k x) ∙ e)
came_from n (Select-F.Up k x m) z e h = ((k, (x, inr (inl (m, tt)))), h, sym (select_forms.rolls-Up k x m) ∙ e)
came_from n (Select-F.Down k x m) z e h = ((k, (x, inr (inr (inl (m, tt))))), h, sym (select_forms.rolls-Down k x m) ∙ e)
came_from n (Select-F.Range k a b) z e h =
    let x = bound_expr a in
    let s = right_split (n + 1) (n + 1 + length (words a_bound a)) (bound_told a).atoms (right_atoms b) refl h.1 in
    let is_x = bound_is (n + 1) a s.0 in
    let same = bound_as (n + 1) x a (bound_back a) is_x in
    let good : is_there (bound_of x) ≡ true = ap is_there (bound_back a) in (
      in_range k x b,
      (h.0, right_join (n + 1) (n + 1 + length (words a_bound a)) (expr_told x).atoms (must (is_there (bound_of x)) ∷ right_atoms b) (omega (arith, ap length same.words_same)) is_x (good, s.1)),
      ap (λ o. ranged k o b) (bound_back a) ∙ sym (select_forms.rolls-Range k a b) ∙ e,
    )

select_all : (n : ℕ) (z : Select) → Is a_select n z → Came n z
select_all n z h = came_from n (out-Select z) z (roll-out-Select z) (subst (λ (t : Tells). IsRight n t.atoms) (select_tells z (out-Select z) refl) h)

no_bracket_at_end : is classes.OpenBracket None ≡ false
unfolding is_class
no_bracket_at_end = refl

-- a select opens a level with its "["
selects_open : Opens Good (is classes.OpenBracket) a_bracket a_select spec.select_by
selects_open = record {
  rule = λ live m e good. shaped a_select made (λ x. x) select_form select_all (deeper_rule (flat_rule good));
  some = refuse;
  dead = λ m. no_expr m;
  knows = knows classes.OpenBracket refl;
  stop = no_bracket_at_end;
  starts = select_starts;
  high = select_high;
}

abbrev pub some_selects : (Option Word → Bool) → Kind Word (List Select)
some_selects prior = list (is classes.OpenBracket) a_select prior

pub selects_in_rule : {live : Type 0} (prior : Option Word → Bool) → prior (Some (word_of classes.OpenBracket)) ≡ false → (d : ℕ) (inner : spec.Inner) → Inside Good d inner
    → Rule live prior (some_selects prior) (λ ss. ss) d (spec.selects_in inner)
selects_in_rule prior free d inner h = lively (many_deeper Good (is classes.OpenBracket) prior a_bracket a_select spec.select_by selects_open free (λ x. refl) [] d inner h)
