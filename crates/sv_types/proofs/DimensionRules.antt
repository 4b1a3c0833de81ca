-- The parsers of dimensions are exact.
use Rattle.std.proofs.Common.{◌≡◌, ℕ, Bool, true, false, not, ◌||◌, ◌⊎◌, [], Option, if◌then◌else◌, refl, inl, inr}
use Rattle.dpi_grammar.specs.Told.{◌&◌, kept, word}
use Rattle.dpi_grammar.specs.Parser.{and_then, first, expect}
use Rattle.dpi_grammar.proofs.Exact.{Kind, words, levels, Is, pair}
use Rattle.dpi_grammar.proofs.Forms.{Form}
use Rattle.dpi_grammar.proofs.Rules.{Rule, never, seq, shaped, numbered, place, token_then, last, behind}
use Rattle.dpi_grammar.proofs.Many.{Apart, Starts, Repeats, list, many}
use Rattle.dpi_lex.specs.Words.{Word}
use Rattle.sv_tree.specs.declared.class.Class.TheVariants as classes
use Rattle.sv_tree.specs.declared.leaves.Bound.{Bound}
use Rattle.sv_tree.specs.declared.leaves.Number.{Number}
use Rattle.sv_tree.specs.declared.types.Dimension.{Dimension}
use Rattle.sv_tree.specs.declared.types.Dimension.TheVariants as sized
use Rattle.sv_tree.specs.Classes.{word_of, is, is_class}
use Rattle.sv_tree.specs.Types.{dimension_told}
use Rattle.sv_tree.proofs.ClassLemmas.{knows}
use Rattle.sv_cursor.proofs.Tokens.{apart_of}
use Rattle.sv_cursor.proofs.LeafRules.{a_bound}
use Rattle.sv_types.specs.Reading as spec
use Rattle.sv_types.specs.Reading.{begins_dimension}
use Rattle.sv_types.proofs.Choices.{misses_by, sum, chosen}
use Rattle.sv_types.proofs.TypeRules.{bound_alone, a_close, after_left}

-- ---- behind the first bound

-- "]", behind a bound without a sign
abbrev pub size_tail : Bool → Kind Word (Unit {0})
size_tail negative = record { told = λ _. kept (not negative) & word (word_of classes.CloseBracket); grabs = λ _ _. false }

abbrev pub Tail : Type 0
Tail = (Bound × Unit {0}) ⊎ Unit {0}

abbrev pub tail : Bool → Kind Word Tail
tail negative = sum after_left (size_tail negative)

abbrev ended : ℕ → Bound → Tail → Dimension
ended k a (inl p) = sized.Range k a p.0
ended k a (inr u) = sized.Size k a.number

range_end_rule : {live : Type 0} {d : ℕ} (k : ℕ) (a : Bound) → Rule live never after_left (λ p. sized.Range k a p.0) d (spec.range_end k a)
unfolding spec.range_end
range_end_rule k a = token_then (is classes.Colon) (word_of classes.Colon) (knows classes.Colon refl) refl
    (seq (λ b. b) (λ b _. sized.Range k a b) _ bound_alone
    (λ b. last (is classes.CloseBracket) (word_of classes.CloseBracket) (sized.Range k a b) (knows classes.CloseBracket refl) refl))

size_form : Form a_close (size_tail false) (λ u. u)
size_form = record { tells = λ n u h. refl; levels_are = λ n u h. refl; is = λ n u h. (refl, tt); grabs = λ n u t h. refl }

size_end_rule : {live : Type 0} {d : ℕ} (k : ℕ) (a : Bound) → Rule live never (size_tail false) (λ _. sized.Size k a.number) d (spec.size_end k a)
unfolding spec.size_end
size_end_rule k a = shaped (size_tail false) (λ u. u) (λ _. sized.Size k a.number) size_form (λ n u h. (tt, tt, refl))
    (last (is classes.CloseBracket) (word_of classes.CloseBracket) (sized.Size k a.number) (knows classes.CloseBracket refl) refl)

after_left_starts : Starts (is classes.Colon) after_left
after_left_starts n x r h = (knows classes.Colon refl).yes

size_tail_starts : Starts (is classes.CloseBracket) (size_tail false)
size_tail_starts n x r h = (knows classes.CloseBracket refl).yes

signed_form : Form after_left (tail true) inl
signed_form = record { tells = λ n x h. refl; levels_are = λ n x h. refl; is = λ n x h. h; grabs = λ n x t h. refl }

signed_all : (n : ℕ) (z : Tail) → Is (tail true) n z → (x : Bound × Unit {0}) × Is after_left n x × (◌≡◌ {A = Tail} (inl x) z)
signed_all n (inl x) h = (x, h, refl)
signed_all n (inr u) h = let bad : false ≡ true = h.0 in absurd (cc)

tail_rule : {live : Type 0} {d : ℕ} (negative : Bool) (k : ℕ) (a : Bound)
    → Rule live never (tail negative) (ended k a) d (λ s. if (negative || is classes.Colon (first s.rest)) then spec.range_end k a s else spec.size_end k a s)
tail_rule true k a = shaped (tail true) inl (ended k a) signed_form signed_all (range_end_rule k a)
tail_rule false k a = chosen (is classes.Colon) after_left (size_tail false) after_left_starts
    (misses_by (is classes.CloseBracket) (is classes.Colon) (size_tail false) size_tail_starts (apart_of classes.CloseBracket classes.Colon refl)) (ended k a) (range_end_rule k a) (size_end_rule k a)

-- ---- behind the bracket

-- bound ":" bound "]" | number "]"
abbrev pub inner_dimension : Kind Word (Bound × Tail)
inner_dimension = pair a_bound (λ a. tail a.negative)

abbrev pub dimension_of : ℕ → Bound × Tail → Dimension
dimension_of k p = ended k p.0 p.1

pub dimension_from_rule : {live : Type 0} {d : ℕ} (k : ℕ) → Rule live never inner_dimension (dimension_of k) d (spec.dimension_from k)
unfolding spec.dimension_from spec.dimension_end
dimension_from_rule k = seq (λ a. a) (ended k) (spec.dimension_end k) bound_alone (λ a. tail_rule a.negative k a)

-- ---- dimensions

abbrev pub a_dimension : Kind Word Dimension
a_dimension = record { told = dimension_told; grabs = λ _ _. false }

abbrev bracketed : Kind Word (ℕ × (Bound × Tail))
bracketed = pair (place never) (λ _. behind (word_of classes.OpenBracket) inner_dimension)

abbrev made : ℕ × (Bound × Tail) → Dimension
made x = dimension_of x.0 x.1

abbrev bound_of : ℕ → Bool → Number → Bound
bound_of k b n = record { token = k; negative = b; number = n }

size_tells : (n k j : ℕ) (b : Bool) (m : Number) → Is bracketed n (k, (bound_of j b m, inr tt)) → words a_dimension (sized.Size k m) ≡ words bracketed (k, (bound_of j b m, inr tt))
size_tells n k j false m h = refl
size_tells n k j true m h = let bad : false ≡ true = h.1.1.1.0 in absurd (cc)

size_levels : (n k j : ℕ) (b : Bool) (m : Number) → Is bracketed n (k, (bound_of j b m, inr tt)) → levels a_dimension (sized.Size k m) ≡ levels bracketed (k, (bound_of j b m, inr tt))
size_levels n k j false m h = refl
size_levels n k j true m h = refl

size_is : (n k j : ℕ) (b : Bool) (m : Number) → Is bracketed n (k, (bound_of j b m, inr tt)) → Is a_dimension n (sized.Size k m)
size_is n k j false m h = (h.0, (h.1.1.0, tt))
size_is n k j true m h = let bad : false ≡ true = h.1.1.1.0 in absurd (cc)

pub dimension_tells : (n : ℕ) (x : ℕ × (Bound × Tail)) → Is bracketed n x → words a_dimension (made x) ≡ words bracketed x
dimension_tells n (k, (a, inl p)) h = refl
dimension_tells n (k, (a, inr u)) h = size_tells n k a.token a.negative a.number h

pub dimension_levels : (n : ℕ) (x : ℕ × (Bound × Tail)) → Is bracketed n x → levels a_dimension (made x) ≡ levels bracketed x
dimension_levels n (k, (a, inl p)) h = refl
dimension_levels n (k, (a, inr u)) h = size_levels n k a.token a.negative a.number h

pub dimension_is : (n : ℕ) (x : ℕ × (Bound × Tail)) → Is bracketed n x → Is a_dimension n (made x)
dimension_is n (k, (a, inl p)) h = h
dimension_is n (k, (a, inr u)) h = size_is n k a.token a.negative a.number h

made_grabs : (w : Tail) (a : Bound) (t : Option Word) → false ≡ bracketed.grabs (0, (a, w)) t
made_grabs (inl p) a t = refl
made_grabs (inr u) a t = refl

pub dimension_form : Form bracketed a_dimension made
dimension_form = record { tells = dimension_tells; levels_are = dimension_levels; is = dimension_is; grabs = λ n x t h. made_grabs x.1.1 x.1.0 t }

pub dimension_all : (n : ℕ) (z : Dimension) → Is a_dimension n z → (x : ℕ × (Bound × Tail)) × Is bracketed n x × (made x ≡ z)
dimension_all n (sized.Range k a b) h = ((k, (a, inl (b, tt))), h, refl)
dimension_all n (sized.Size k m) h = ((k, (bound_of m.token false m, inr tt)), (h.0, (h.1.0, (h.1.0, (refl, tt)))), refl)

pub dimension_starts : Starts begins_dimension a_dimension
dimension_starts n (sized.Range k a b) r h = (knows classes.OpenBracket refl).yes
dimension_starts n (sized.Size k m) r h = (knows classes.OpenBracket refl).yes

pub dimension_rule : {live : Type 0} {d : ℕ} → Rule live never a_dimension (λ x. x) d spec.dimension
unfolding spec.dimension
dimension_rule = shaped a_dimension made (λ x. x) dimension_form dimension_all
    (numbered dimension_of (λ k s. and_then (expect (is classes.OpenBracket) s) (λ _. spec.dimension_from k))
    (λ k. token_then (is classes.OpenBracket) (word_of classes.OpenBracket) (knows classes.OpenBracket refl) refl (dimension_from_rule k)))

pub dimensions_repeat : Repeats begins_dimension a_dimension
unfolding is_class
dimensions_repeat = record { starts = dimension_starts; next = λ x t e. refl; at_end = refl }

-- dim*, behind something that no bracket goes on with
pub dimensions_rule : {live : Type 0} {d : ℕ} (before : Option Word → Bool) → Apart begins_dimension before
    → Rule live before (list begins_dimension a_dimension before) (λ xs. xs) d spec.dimensions
dimensions_rule before apart = many begins_dimension before dimensions_repeat apart [] dimension_rule
