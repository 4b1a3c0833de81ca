-- The parsers of concatenations and repetitions are exact.
use Rattle.std.proofs.Common.{◌≡◌, ℕ, ◌+◌, Bool, true, false, ◌⊎◌, List, [], ◌∷◌, ◌++◌, map, length, Option, Some, None, Ok, if◌then◌else◌, refl, sym, ap, ◌∙◌, subst, arith, inl, inr}
use Rattle.dpi_grammar.specs.Told.{Atom, must, says, ◌&◌, noted, kept, deeper, behind_each, words_in, IsRight}
use Rattle.dpi_grammar.specs.Parser.{and_then, expect, first, is_there}
use Rattle.dpi_grammar.proofs.Lists.{words_append, right_split, right_join}
use Rattle.dpi_grammar.proofs.Exact.{Kind, words, levels, Is, pair}
use Rattle.dpi_grammar.proofs.Forms.{Form, within}
use Rattle.dpi_grammar.proofs.Rules.{Rule, never, seq, shaped, numbered, place, token_then, last, one, behind}
use Rattle.dpi_grammar.proofs.Many.{Starts, and_assoc, behind_are}
use Rattle.dpi_grammar.proofs.Choices.{either, sum, Off}
use Rattle.dpi_lex.specs.Words.{Word}
use Rattle.sv_tree.specs.declared.class.Class.TheVariants as classes
use Rattle.sv_tree.specs.declared.leaves.Number.{Number}
use Rattle.sv_tree.specs.declared.expr.Expr.{Expr}
use Rattle.sv_tree.specs.declared.expr.Primary.{Primary, roll-Primary}
use Rattle.sv_tree.specs.declared.expr.Primary.TheVariants as forms
use Rattle.sv_tree.specs.declared.expr.Primary.TheOpen.{Primary-F}
use Rattle.sv_tree.specs.Classes.{is, word_of}
use Rattle.sv_tree.specs.Expressions.{Tells, quoted, comma, expr_told, number_told, primary_told}
use Rattle.sv_tree.proofs.ClassLemmas.{knows}
use Rattle.sv_cursor.specs.Reading.{Parses}
use Rattle.sv_cursor.proofs.Tokens.{word_is_not}
use Rattle.sv_cursor.proofs.LeafRules.{a_number}
use Rattle.sv_expr.specs.declared.front.Front.TheVariants as fronts
use Rattle.sv_expr.specs.Front.{front_of}
use Rattle.sv_expr.specs.Bounds.{Layer, number_of}
use Rattle.sv_expr.specs.Reading as spec
use Rattle.sv_expr.proofs.Goes.{a_primary, an_expr}
use Rattle.sv_expr.proofs.Trees.{layer_told, primary_tells}
use Rattle.sv_expr.proofs.Starts.{class_in}
use Rattle.sv_expr.proofs.Frees.{expr_stops, expr_apart, primary_grabs_are}
use Rattle.sv_expr.proofs.Alternatives.{if_rule, Empty, refuse_or}
use Rattle.sv_expr.proofs.PartRules.{Good, a_comma, some_exprs, more_exprs, exprs_stop, more_stop, exprs_by_rule, more_exprs_by_rule}
use Rattle.sv_expr.proofs.BoundTrees.{TellsAs, number_as, number_expr, number_back, number_is}

-- ---- kinds

abbrev pub a_brace : Word
a_brace = word_of classes.OpenBrace

abbrev an_end : Kind Word (Unit {0})
an_end = one (word_of classes.CloseBrace)

-- "{" expr,+ "}" "}"
abbrev counted : Kind Word (List Expr × Unit {0})
counted = behind a_brace (pair some_exprs (λ _. behind (word_of classes.CloseBrace) an_end))

-- the same, where it may stand
abbrev counted_if : Bool → Kind Word (List Expr × Unit {0})
counted_if b = record { told = λ p. kept b & counted.told p; grabs = λ _ _. false }

-- ("," expr)* "}"
abbrev others : Expr → Kind Word (List Expr × Unit {0})
others x = pair (more_exprs (an_expr.grabs x)) (λ _. an_end)

abbrev Tail : Type 0
Tail = (List Expr × Unit {0}) ⊎ (List Expr × Unit {0})

-- what follows the first expression, where only a number may stand before a "{"
abbrev a_tail : Bool → Expr → Kind Word Tail
a_tail b x = sum (counted_if b) (others x)

abbrev repeated : ℕ → Option Number → List Expr → Primary
repeated k (Some m) xs = forms.Repetition k m xs
repeated k None xs = forms.Null k

abbrev tailed : ℕ → Expr → Option Number → Tail → Primary
tailed k x o = either (λ p. repeated k o p.0) (λ p. forms.Concatenation k (x ∷ p.0))

-- "{" and an expression, and a tail
abbrev pub braces : Kind Word (ℕ × (Expr × Tail))
braces = pair (place never) (λ _. behind a_brace (pair an_expr (λ x. a_tail (is_there (number_of x)) x)))

abbrev pub braces_made : ℕ × (Expr × Tail) → Primary
braces_made z = tailed z.0 z.1.0 (number_of z.1.0) z.1.1

-- ---- the tail

not_counted : Empty (counted_if false)
not_counted n p h = let bad : false ≡ true = h.0 in absurd (cc)

counted_form : Form counted (counted_if true) (λ p. p)
counted_form = record { tells = λ n p h. refl; levels_are = λ n p h. omega arith; is = λ n p h. (refl, h); grabs = λ n p t h. refl }

counted_starts : (b : Bool) → Starts (is classes.OpenBrace) (counted_if b)
counted_starts b n p r h = (knows classes.OpenBrace refl).yes

others_off : (x : Expr) → Off (is classes.OpenBrace) (others x)
others_off x n ([], u) r h g = word_is_not classes.OpenBrace classes.CloseBrace refl refl
others_off x n (y ∷ ys, u) r h g = word_is_not classes.OpenBrace classes.Comma refl refl

-- what reads them, where the parser of the expressions inside is exact
module _ {live : Type 0} {d : ℕ} {e : Parses Expr} (good : Good live d e) where
  others_rule : (k : ℕ) (x : Expr) → Rule live (an_expr.grabs x) (others x) (λ p. forms.Concatenation k (x ∷ p.0)) d (spec.concatenation_tail e k x)
  unfolding spec.concatenation_tail
  others_rule k x = seq (λ ys. x ∷ ys) (λ ys _. forms.Concatenation k (x ∷ ys)) (λ xs s. and_then (expect (is classes.CloseBrace) s) (λ _ s. Ok (forms.Concatenation k xs, s)))
      (more_exprs_by_rule good (an_expr.grabs x) (expr_apart classes.Comma refl refl x) (x ∷ []))
      (λ ys. last (is classes.CloseBrace) (word_of classes.CloseBrace) (forms.Concatenation k (x ∷ ys)) (knows classes.CloseBrace refl)
      (more_stop (an_expr.grabs x) classes.CloseBrace refl refl refl (expr_stops classes.CloseBrace refl refl x) ys))

  counted_rule : (k : ℕ) (m : Number) (before : Option Word → Bool) → before (Some a_brace) ≡ false → Rule live before (counted_if true) (λ p. forms.Repetition k m p.0) d (spec.repetition_behind e k (Some m))
  counted_rule k m before free =
      shaped (counted_if true) (λ p. p) (λ p. forms.Repetition k m p.0) counted_form (λ n p h. (p, h.1, refl))
      (token_then (is classes.OpenBrace) a_brace (knows classes.OpenBrace refl) free
      (seq (λ xs. xs) (λ xs _. forms.Repetition k m xs) _ (exprs_by_rule good never (λ t e. refl))
      (λ xs. token_then (is classes.CloseBrace) (word_of classes.CloseBrace) (knows classes.CloseBrace refl) (exprs_stop classes.CloseBrace refl refl refl xs)
      (last (is classes.CloseBrace) (word_of classes.CloseBrace) (forms.Repetition k m xs) (knows classes.CloseBrace refl) refl))))

  tail_by : (k : ℕ) (x : Expr) (o : Option Number) → Rule live (an_expr.grabs x) (a_tail (is_there o) x) (tailed k x o) d (λ s. if is classes.OpenBrace (first s.rest) then spec.repetition_behind e k o s else spec.concatenation_tail e k x s)
  tail_by k x None = refuse_or (is classes.OpenBrace) (an_expr.grabs x) (counted_if false) (others x) not_counted (others_off x) (others_rule k x)
  tail_by k x (Some m) = if_rule (is classes.OpenBrace) (counted_starts true) (others_off x) (counted_rule k m (an_expr.grabs x) (expr_stops classes.OpenBrace refl refl x)) (others_rule k x)

  pub braces_by_rule : Rule live never braces braces_made d (spec.braces_by e)
  unfolding spec.braces_by spec.braces_tail spec.repetition_tail
  braces_by_rule = numbered (λ k p. tailed k p.0 (number_of p.0) p.1) (λ k s. and_then (expect (is classes.OpenBrace) s) (λ _ s. and_then (e s) (λ x. spec.braces_tail e k x)))
      (λ k. token_then (is classes.OpenBrace) a_brace (knows classes.OpenBrace refl) refl
      (seq (λ x. x) (λ x w. tailed k x (number_of x) w) (λ x. spec.braces_tail e k x) good (λ x. tail_by k x (number_of x))))

-- ---- such a primary

there : (o : Option Number) → is_there o ≡ true → (m : Number) × (o ≡ Some m)
there (Some m) e = (m, refl)
there None e = let bad : false ≡ true = e in absurd (cc)

-- what follows the number of a repetition
abbrev tail_atoms : List Expr → List (Atom Word)
tail_atoms xs = says a_brace ∷ ((some_exprs.told xs).atoms ++ says (word_of classes.CloseBrace) ∷ says (word_of classes.CloseBrace) ∷ [])

abbrev in_count : ℕ → Expr → List Expr → ℕ × (Expr × Tail)
in_count k x xs = (k, (x, inl (xs, tt)))

-- a repetition that was read, and its number
record Count (n : ℕ) (k : ℕ) (x : Expr) (xs : List Expr) : Type 0 where
  pub count : Number
  pub number : number_of x ≡ Some count
  pub right : IsRight (n + 1 + length (words an_expr x)) (tail_atoms xs)
  pub begins : k ≡ n
  pub tells : TellsAs (n + 1) (expr_told x) (number_told count)

count_of : (n k : ℕ) (x : Expr) (xs : List Expr) → Is braces n (in_count k x xs) → Count n k x xs
count_of n k x xs h =
    let s = right_split (n + 1) (n + 1 + length (words an_expr x)) (expr_told x).atoms (must (is_there (number_of x)) ∷ tail_atoms xs) refl h.1 in
    let a = there (number_of x) s.1.0 in
    record { count = a.0; number = a.1; right = s.1.1; begins = h.0; tells = number_as (n + 1) x a.0 a.1 s.0 }

count_words : (n k : ℕ) (x : Expr) (xs : List Expr) → Count n k x xs → words a_primary (braces_made (in_count k x xs)) ≡ words braces (in_count k x xs)
count_words n k x xs l =
    ap (λ o. words a_primary (repeated k o xs)) l.number ∙ ap (λ (t : Tells). words_in t.atoms) (primary_tells (forms.Repetition k l.count xs) _ (forms.outs-Repetition k l.count xs))
    ∙ ap (λ w. a_brace ∷ w) (words_append (number_told l.count).atoms (tail_atoms xs) ∙ ap (λ w. w ++ words_in (tail_atoms xs)) (sym l.tells.words_same)
    ∙ sym (words_append (expr_told x).atoms (must (is_there (number_of x)) ∷ tail_atoms xs)))

count_levels : (n k : ℕ) (x : Expr) (xs : List Expr) → Count n k x xs → levels a_primary (braces_made (in_count k x xs)) ≡ levels (within braces) (in_count k x xs)
count_levels n k x xs l =
    let e = ap (λ o. levels a_primary (repeated k o xs)) l.number ∙ ap (λ (t : Tells). t.levels) (primary_tells (forms.Repetition k l.count xs) _ (forms.outs-Repetition k l.count xs)) in
    omega (arith, e, l.tells.levels_same)

count_is : (n k : ℕ) (x : Expr) (xs : List Expr) → Count n k x xs → Is a_primary n (braces_made (in_count k x xs))
count_is n k x xs l =
    let back = ap (λ o. primary_told (repeated k o xs)) l.number ∙ primary_tells (forms.Repetition k l.count xs) _ (forms.outs-Repetition k l.count xs) in
    subst (λ (t : Tells). IsRight n t.atoms) (sym back)
    (l.begins, right_join (n + 1) (n + 1 + length (words an_expr x)) (number_told l.count).atoms (tail_atoms xs) (omega (arith, ap length l.tells.words_same)) l.tells.right l.right)

-- a concatenation tells what its parts tell
joined_tells : (k : ℕ) (x : Expr) (ys : List Expr) → primary_told (forms.Concatenation k (x ∷ ys)) ≡ (within braces).told (k, (x, inr (ys, tt)))
joined_tells k x ys =
    primary_tells (forms.Concatenation k (x ∷ ys)) _ (forms.outs-Concatenation k (x ∷ ys))
    ∙ ap (λ (t : Tells). deeper (noted k & quoted classes.OpenBrace & t)) (and_assoc (expr_told x) (behind_each comma (map expr_told ys)) (quoted classes.CloseBrace)
    ∙ ap (λ (t : Tells). expr_told x & t & quoted classes.CloseBrace) (behind_are a_comma an_expr ys))

made_words : (n : ℕ) (z : ℕ × (Expr × Tail)) → Is braces n z → words a_primary (braces_made z) ≡ words braces z
made_words n (k, (x, inl p)) h = count_words n k x p.0 (count_of n k x p.0 h)
made_words n (k, (x, inr p)) h = ap (λ (t : Tells). words_in t.atoms) (joined_tells k x p.0)

made_levels : (n : ℕ) (z : ℕ × (Expr × Tail)) → Is braces n z → levels a_primary (braces_made z) ≡ levels (within braces) z
made_levels n (k, (x, inl p)) h = count_levels n k x p.0 (count_of n k x p.0 h)
made_levels n (k, (x, inr p)) h = ap (λ (t : Tells). t.levels) (joined_tells k x p.0)

made_is : (n : ℕ) (z : ℕ × (Expr × Tail)) → Is braces n z → Is a_primary n (braces_made z)
made_is n (k, (x, inl p)) h = count_is n k x p.0 (count_of n k x p.0 h)
made_is n (k, (x, inr p)) h = subst (λ (t : Tells). IsRight n t.atoms) (sym (joined_tells k x p.0)) h

count_grabs : (k : ℕ) (o : Option Number) (xs : List Expr) (t : Option Word) → a_primary.grabs (repeated k o xs) t ≡ false
count_grabs k (Some m) xs t = primary_grabs_are (forms.Repetition k m xs) _ (forms.outs-Repetition k m xs) t
count_grabs k None xs t = primary_grabs_are (forms.Null k) _ (forms.outs-Null k) t

made_grabs : (z : ℕ × (Expr × Tail)) (t : Option Word) → a_primary.grabs (braces_made z) t ≡ braces.grabs z t
made_grabs (k, (x, inl p)) t = count_grabs k (number_of x) p.0 t
made_grabs (k, (x, inr p)) t = primary_grabs_are (forms.Concatenation k (x ∷ p.0)) _ (forms.outs-Concatenation k (x ∷ p.0)) t

pub braces_form : Form (within braces) a_primary braces_made
braces_form = record { tells = made_words; levels_are = made_levels; is = made_is; grabs = λ n z t h. made_grabs z t }

abbrev pub Came : ℕ → Primary → Type 0
Came n z = (x : ℕ × (Expr × Tail)) × Is (within braces) n x × (braces_made x ≡ z)

no_concatenation : (n k : ℕ) (z : Primary) → IsRight n (layer_told (Primary-F.Concatenation k [])).atoms → Came n z
no_concatenation n k z h = let bad : false ≡ true = h.1.0 in absurd (cc)

-- each primary that begins with a "{"
pub came_from : (n : ℕ) (l : Layer) (z : Primary) → front_of (Some (class_in l)) ≡ fronts.Braces → roll-Primary l ≡ z → IsRight n (layer_told l).atoms → Came n z
came_from n (Primary-F.Concatenation k []) z f e h = no_concatenation n k z h
came_from n (Primary-F.Concatenation k (x ∷ ys)) z f e h =
    let whole : primary_told (forms.Concatenation k (x ∷ ys)) ≡ layer_told (Primary-F.Concatenation k (x ∷ ys)) = primary_tells (forms.Concatenation k (x ∷ ys)) _ (forms.outs-Concatenation k (x ∷ ys)) in
    ((k, (x, inr (ys, tt))), subst (λ (t : Tells). IsRight n t.atoms) (sym whole ∙ joined_tells k x ys) h, sym (forms.rolls-Concatenation k (x ∷ ys)) ∙ e)
came_from n (Primary-F.Repetition k m xs) z f e h =
    let x = number_expr m in
    let s = right_split (n + 1) (n + 1 + length (words a_number m)) (number_told m).atoms (tail_atoms xs) refl h.1 in
    let is_x = number_is (n + 1) m s.0 in
    let same = number_as (n + 1) x m (number_back m) is_x in
    let good : is_there (number_of x) ≡ true = ap is_there (number_back m) in (
      in_count k x xs,
      (h.0, right_join (n + 1) (n + 1 + length (words a_number m)) (expr_told x).atoms (must (is_there (number_of x)) ∷ tail_atoms xs) (omega (arith, ap length same.words_same)) is_x (good, s.1)),
      ap (λ o. repeated k o xs) (number_back m) ∙ sym (forms.rolls-Repetition k m xs) ∙ e,
    )
came_from n _ z f e h = absurd (cc)
