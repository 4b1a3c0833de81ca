-- The parsers of types and dimensions of imports are exact.
use Rattle.std.proofs.Common.{◌≡◌, ℕ, Bool, true, false, ◌⊎◌, List, [], ◌++◌, Option, Some, None, refl, ap, inl, inr}
use Rattle.dpi_grammar.specs.Told.{◌&◌, noted, words_in}
use Rattle.dpi_grammar.specs.Parser.{and_then, first, expect}
use Rattle.dpi_grammar.proofs.Exact.{Kind, words, levels, Is, pair}
use Rattle.dpi_grammar.proofs.Forms.{Form}
use Rattle.dpi_grammar.proofs.Rules.{Rule, never, seq, mapped, shaped, told_as, numbered, place, token_then, last, behind, plain, plainly}
use Rattle.dpi_grammar.proofs.Many.{Apart, Starts, Repeats, option, list, many, perhaps, put_apart}
use Rattle.dpi_lex.specs.Words.{Word}
use Rattle.sv_tree.specs.declared.class.Class.TheVariants as classes
use Rattle.sv_tree.specs.declared.kinds.VectorKind.{VectorKind}
use Rattle.sv_tree.specs.declared.kinds.VectorKind.TheVariants.{Bit}
use Rattle.sv_tree.specs.declared.leaves.Bound.{Bound}
use Rattle.sv_tree.specs.declared.leaves.Number.{Number}
use Rattle.sv_tree.specs.declared.types.Sign.{Sign}
use Rattle.sv_tree.specs.declared.types.DataType.TheVariants as types
use Rattle.sv_tree.specs.declared.types.ImportType.{ImportType}
use Rattle.sv_tree.specs.declared.types.ImportType.TheVariants as import_types
use Rattle.sv_tree.specs.declared.types.ImportDimension.{ImportDimension}
use Rattle.sv_tree.specs.declared.types.ImportDimension.TheVariants as import_sized
use Rattle.sv_tree.specs.Classes.{word_of, class_at, is, is_class}
use Rattle.sv_tree.specs.Expressions.{Tells, quoted, minus_told, number_told}
use Rattle.sv_tree.specs.Kinds.{vector_of}
use Rattle.sv_tree.specs.Types.{range_told, import_type_told, import_dimension_told}
use Rattle.sv_tree.proofs.ClassLemmas.{knows}
use Rattle.sv_cursor.proofs.Tokens.{apart_of, number_class}
use Rattle.sv_cursor.proofs.LeafRules.{a_bound, begins_bound}
use Rattle.sv_types.specs.declared.imported.Brackets.{Brackets}
use Rattle.sv_types.specs.declared.imported.Brackets.TheVariants.{Empty, Bounds}
use Rattle.sv_types.specs.Reading as spec
use Rattle.sv_types.specs.Reading.{begins_sign, begins_vector, begins_dimension, begins_data_type, import_type_of}
use Rattle.sv_types.proofs.Choices.{or_first, or_second, apart_either, Misses, misses_by, pair_starts, sum, chosen}
use Rattle.sv_types.proofs.Words.{value_starts, vector_word, vector_reader}
use Rattle.sv_types.proofs.TypeRules.{a_sign, sign_grabs, optional_sign_rule, a_close, after_left, bounds, make_range, range_from_rule, bracket_apart, Plain, plain_of, plain_types, plain_rule, plain_told, plain_grabs, plain_miss_vector, type_grabs, type_free, type_starts, vector_begins}
use Rattle.sv_types.proofs.DimensionRules.{Tail, tail, inner_dimension, dimension_of, dimension_from_rule, dimension_tells, dimension_levels, dimension_is, dimension_all, dimension_starts}

-- ---- what starts with a bound

bound_begins : (b : Bool) (n : Number) (r : List Word) → begins_bound (first (words_in ((minus_told b).atoms ++ (number_told n).atoms) ++ r)) ≡ true
bound_begins true n r = or_first _ _ (knows classes.Minus refl).yes
bound_begins false n r = or_second _ _ (number_class n.bytes)

bound_starts : Starts begins_bound a_bound
bound_starts n x r h = bound_begins x.negative x.number r

bound_misses_close : Apart begins_bound (is classes.CloseBracket)
bound_misses_close = apart_either (is classes.Minus) (is classes.Number) (is classes.CloseBracket) (apart_of classes.Minus classes.CloseBracket refl) (apart_of classes.Number classes.CloseBracket refl)

bounds_miss_close : Misses (is classes.CloseBracket) bounds
bounds_miss_close = misses_by begins_bound (is classes.CloseBracket) bounds (pair_starts begins_bound a_bound (λ _. after_left) bound_starts) bound_misses_close

inner_misses_close : Misses (is classes.CloseBracket) inner_dimension
inner_misses_close = misses_by begins_bound (is classes.CloseBracket) inner_dimension (pair_starts begins_bound a_bound (λ a. tail a.negative) bound_starts) bound_misses_close

close_starts : Starts (is classes.CloseBracket) a_close
close_starts n x r h = (knows classes.CloseBracket refl).yes

-- ---- brackets of a vector

-- "[" "]" | range
abbrev brackets_told : Brackets → Tells
brackets_told (Empty k) = noted k & quoted classes.OpenBracket & quoted classes.CloseBracket
brackets_told (Bounds r) = range_told r

abbrev a_brackets : Kind Word Brackets
a_brackets = record { told = brackets_told; grabs = λ _ _. false }

abbrev Inside : Type 0
Inside = Unit {0} ⊎ (Bound × (Bound × Unit {0}))

abbrev brackets_of : ℕ → Inside → Brackets
brackets_of k (inl u) = Empty k
brackets_of k (inr p) = Bounds (make_range k p.0 p.1.0)

abbrev inside_brackets : Kind Word (ℕ × Inside)
inside_brackets = pair (place never) (λ _. behind (word_of classes.OpenBracket) (sum a_close bounds))

told_brackets : (k : ℕ) (x : Inside) → brackets_told (brackets_of k x) ≡ inside_brackets.told (k, x)
told_brackets k (inl u) = refl
told_brackets k (inr p) = refl

grabs_brackets : (x : Inside) (t : Option Word) → false ≡ (sum a_close bounds).grabs x t
grabs_brackets (inl u) t = refl
grabs_brackets (inr p) t = refl

all_brackets : (z : Brackets) → (x : ℕ × Inside) × (brackets_of x.0 x.1 ≡ z)
all_brackets (Empty k) = ((k, inl tt), refl)
all_brackets (Bounds r) = ((r.token, inr (r.left, (r.right, tt))), refl)

brackets_starts : Starts begins_dimension a_brackets
brackets_starts n (Empty k) r h = (knows classes.OpenBracket refl).yes
brackets_starts n (Bounds x) r h = (knows classes.OpenBracket refl).yes

bracketed_from_rule : {live : Type 0} {d : ℕ} (k : ℕ) → Rule live never (sum a_close bounds) (brackets_of k) d (spec.bracketed_from k)
unfolding spec.bracketed_from
bracketed_from_rule k = chosen (is classes.CloseBracket) a_close bounds close_starts bounds_miss_close (brackets_of k)
    (last (is classes.CloseBracket) (word_of classes.CloseBracket) (Empty k) (knows classes.CloseBracket refl) refl) (mapped Bounds (range_from_rule k))

bracketed_rule : {live : Type 0} {d : ℕ} → Rule live never a_brackets (λ x. x) d spec.bracketed
unfolding spec.bracketed
bracketed_rule = told_as a_brackets (λ (x : ℕ × Inside). brackets_of x.0 x.1) (λ x. x) (λ x. told_brackets x.0 x.1) (λ x t. grabs_brackets x.1 t) all_brackets
    (numbered brackets_of (λ k s. and_then (expect (is classes.OpenBracket) s) (λ _. spec.bracketed_from k))
    (λ k. token_then (is classes.OpenBracket) (word_of classes.OpenBracket) (knows classes.OpenBracket refl) refl (bracketed_from_rule k)))

-- ---- types of imports

abbrev Vector : Type 0
Vector = ℕ × (VectorKind × (Option Sign × Option Brackets))

-- vec sign? ("[" "]" | range)?
abbrev import_vectors : Kind Word Vector
import_vectors = pair (place never) (λ _. pair (plain vector_word) (λ _. pair (option begins_sign a_sign never) (λ s. option begins_dimension a_brackets (sign_grabs s))))

vector_starts : Starts begins_vector import_vectors
vector_starts n x r h = value_starts (λ t. vector_of (class_at t)) vector_word vector_reader x.1.0

import_vector_rule : {live : Type 0} {d : ℕ} → Rule live never import_vectors (λ p. import_type_of p.0 p.1.0 p.1.1.0 p.1.1.1) d spec.import_vector
unfolding spec.import_vector
import_vector_rule = numbered (λ k p. import_type_of k p.0 p.1.0 p.1.1) _
    (λ k. seq (λ v. v) (λ v p. import_type_of k v p.0 p.1) _ (plainly (λ t. vector_of (class_at t)) vector_word vector_reader (λ v. refl) Bit)
    (λ v. seq (λ s. s) (λ s b. import_type_of k v s b) _ optional_sign_rule
    (λ s. mapped (λ b. import_type_of k v s b) (perhaps begins_dimension (sign_grabs s) brackets_starts (bracket_apart s) bracketed_rule))))

-- what goes on with a type of an import
abbrev pub import_type_grabs : ImportType → Option Word → Bool
import_type_grabs (import_types.Data z) = type_grabs z
import_type_grabs (import_types.Unsized k v s o) = never

abbrev pub an_import_type : Kind Word ImportType
an_import_type = record { told = import_type_told; grabs = import_type_grabs }

abbrev made_type : Vector ⊎ Plain → ImportType
made_type (inl p) = import_type_of p.0 p.1.0 p.1.1.0 p.1.1.1
made_type (inr x) = import_types.Data (plain_of x)

told_vector : (k : ℕ) (v : VectorKind) (s : Option Sign) (b : Option Brackets) → import_type_told (import_type_of k v s b) ≡ import_vectors.told (k, (v, (s, b)))
told_vector k v s None = refl
told_vector k v s (Some (Empty o)) = refl
told_vector k v s (Some (Bounds r)) = refl

grabs_vector : (k : ℕ) (v : VectorKind) (s : Option Sign) (b : Option Brackets) (t : Option Word) → import_type_grabs (import_type_of k v s b) t ≡ import_vectors.grabs (k, (v, (s, b))) t
grabs_vector k v s None t = refl
grabs_vector k v s (Some (Empty o)) t = refl
grabs_vector k v s (Some (Bounds r)) t = refl

told_import : (x : Vector ⊎ Plain) → import_type_told (made_type x) ≡ (sum import_vectors plain_types).told x
told_import (inl p) = told_vector p.0 p.1.0 p.1.1.0 p.1.1.1
told_import (inr x) = plain_told x

grabs_import : (x : Vector ⊎ Plain) (t : Option Word) → import_type_grabs (made_type x) t ≡ (sum import_vectors plain_types).grabs x t
grabs_import (inl p) t = grabs_vector p.0 p.1.0 p.1.1.0 p.1.1.1 t
grabs_import (inr x) t = plain_grabs x t

all_imports : (z : ImportType) → (x : Vector ⊎ Plain) × (made_type x ≡ z)
all_imports (import_types.Data (types.Vector k v s None)) = (inl (k, (v, (s, None))), refl)
all_imports (import_types.Data (types.Vector k v s (Some r))) = (inl (k, (v, (s, Some (Bounds r)))), refl)
all_imports (import_types.Data (types.Whole k w s)) = (inr (inl (k, (w, s))), refl)
all_imports (import_types.Data (types.Integer k)) = (inr (inr (inl (k, tt))), refl)
all_imports (import_types.Data (types.String k)) = (inr (inr (inr (inl (k, tt)))), refl)
all_imports (import_types.Data (types.Chandle k)) = (inr (inr (inr (inr (k, tt)))), refl)
all_imports (import_types.Unsized k v s o) = (inl (k, (v, (s, Some (Empty o)))), refl)

pub import_type_starts : Starts begins_data_type an_import_type
import_type_starts n (import_types.Data z) r h = type_starts n z r h
import_type_starts n (import_types.Unsized k v s o) r h = vector_begins v

import_rule_never : {live : Type 0} {d : ℕ} → Rule live never an_import_type (λ x. x) d spec.import_type
unfolding spec.import_type
import_rule_never = told_as an_import_type made_type (λ x. x) told_import grabs_import all_imports
    (chosen begins_vector import_vectors plain_types vector_starts plain_miss_vector made_type import_vector_rule (mapped import_types.Data plain_rule))

pub import_type_rule : {live : Type 0} {before : Option Word → Bool} {d : ℕ} → Apart begins_data_type before → Rule live before an_import_type (λ x. x) d spec.import_type
import_type_rule {before = before} apart = put_apart begins_data_type before import_type_starts apart import_rule_never

-- a type of an import goes on with signings and brackets alone
pub import_type_free : (z : ImportType) (t : Option Word) → begins_sign t ≡ false → begins_dimension t ≡ false → import_type_grabs z t ≡ false
import_type_free (import_types.Data z) t e f = type_free z t e f
import_type_free (import_types.Unsized k v s o) t e f = refl

-- ---- dimensions of imports

abbrev pub an_import_dimension : Kind Word ImportDimension
an_import_dimension = record { told = import_dimension_told; grabs = λ _ _. false }

abbrev Held : Type 0
Held = Unit {0} ⊎ (Bound × Tail)

abbrev held : Kind Word (ℕ × Held)
held = pair (place never) (λ _. behind (word_of classes.OpenBracket) (sum a_close inner_dimension))

abbrev made_by : ℕ → Held → ImportDimension
made_by k (inl u) = import_sized.Unsized k
made_by k (inr p) = import_sized.Sized (dimension_of k p)

abbrev made : ℕ × Held → ImportDimension
made x = made_by x.0 x.1

held_tells : (n : ℕ) (x : ℕ × Held) → Is held n x → words an_import_dimension (made x) ≡ words held x
held_tells n (k, inl u) h = refl
held_tells n (k, inr p) h = dimension_tells n (k, p) h

held_levels : (n : ℕ) (x : ℕ × Held) → Is held n x → levels an_import_dimension (made x) ≡ levels held x
held_levels n (k, inl u) h = refl
held_levels n (k, inr p) h = dimension_levels n (k, p) h

held_is : (n : ℕ) (x : ℕ × Held) → Is held n x → Is an_import_dimension n (made x)
held_is n (k, inl u) h = h
held_is n (k, inr p) h = dimension_is n (k, p) h

tail_grabs : (a : Bound) (w : Tail) (t : Option Word) → false ≡ inner_dimension.grabs (a, w) t
tail_grabs a (inl p) t = refl
tail_grabs a (inr u) t = refl

held_grabs : (x : Held) (t : Option Word) → false ≡ (sum a_close inner_dimension).grabs x t
held_grabs (inl u) t = refl
held_grabs (inr p) t = tail_grabs p.0 p.1 t

held_form : Form held an_import_dimension made
held_form = record { tells = held_tells; levels_are = held_levels; is = held_is; grabs = λ n x t h. held_grabs x.1 t }

held_all : (n : ℕ) (z : ImportDimension) → Is an_import_dimension n z → (x : ℕ × Held) × Is held n x × (made x ≡ z)
held_all n (import_sized.Unsized k) h = ((k, inl tt), h, refl)
held_all n (import_sized.Sized z) h = let o = dimension_all n z h in ((o.0.0, inr o.0.1), o.1, ap import_sized.Sized o.2)

import_dimension_from_rule : {live : Type 0} {d : ℕ} (k : ℕ) → Rule live never (sum a_close inner_dimension) (made_by k) d (spec.import_dimension_from k)
unfolding spec.import_dimension_from
import_dimension_from_rule k = chosen (is classes.CloseBracket) a_close inner_dimension close_starts inner_misses_close (made_by k)
    (last (is classes.CloseBracket) (word_of classes.CloseBracket) (import_sized.Unsized k) (knows classes.CloseBracket refl) refl) (mapped import_sized.Sized (dimension_from_rule k))

pub import_dimension_starts : Starts begins_dimension an_import_dimension
import_dimension_starts n (import_sized.Unsized k) r h = (knows classes.OpenBracket refl).yes
import_dimension_starts n (import_sized.Sized z) r h = dimension_starts n z r h

pub import_dimension_rule : {live : Type 0} {d : ℕ} → Rule live never an_import_dimension (λ x. x) d spec.import_dimension
unfolding spec.import_dimension
import_dimension_rule = shaped an_import_dimension made (λ x. x) held_form held_all
    (numbered made_by (λ k s. and_then (expect (is classes.OpenBracket) s) (λ _. spec.import_dimension_from k))
    (λ k. token_then (is classes.OpenBracket) (word_of classes.OpenBracket) (knows classes.OpenBracket refl) refl (import_dimension_from_rule k)))

pub import_dimensions_repeat : Repeats begins_dimension an_import_dimension
unfolding is_class
import_dimensions_repeat = record { starts = import_dimension_starts; next = λ x t e. refl; at_end = refl }

-- idim*, behind something that no bracket goes on with
pub import_dimensions_rule : {live : Type 0} {d : ℕ} (before : Option Word → Bool) → Apart begins_dimension before
    → Rule live before (list begins_dimension an_import_dimension before) (λ xs. xs) d spec.import_dimensions
import_dimensions_rule before apart = many begins_dimension before import_dimensions_repeat apart [] import_dimension_rule
