-- The parsers of types are exact.
use Rattle.std.proofs.Common.{◌≡◌, ℕ, Bool, true, false, ◌⊎◌, Option, Some, None, Ok, refl, inl, inr}
use Rattle.dpi_grammar.specs.Parser.{and_then, expect, is_there}
use Rattle.dpi_grammar.proofs.Exact.{Kind, pair}
use Rattle.dpi_grammar.proofs.Rules.{Rule, never, seq, mapped, told_as, numbered, place, token_then, last, one, behind, plain, plainly}
use Rattle.dpi_grammar.proofs.Many.{Apart, Starts, or_both, option, option_grabs, perhaps, put_apart}
use Rattle.dpi_lex.specs.Words.{Word}
use Rattle.sv_tree.specs.declared.class.Class.{Class}
use Rattle.sv_tree.specs.declared.class.Class.TheVariants as classes
use Rattle.sv_tree.specs.declared.kinds.VectorKind.{VectorKind}
use Rattle.sv_tree.specs.declared.kinds.WholeKind.{WholeKind}
use Rattle.sv_tree.specs.declared.kinds.Signing.{Signing}
use Rattle.sv_tree.specs.declared.kinds.Signing.TheVariants.{Signed}
use Rattle.sv_tree.specs.declared.kinds.VectorKind.TheVariants.{Bit, Logic, Reg}
use Rattle.sv_tree.specs.declared.kinds.WholeKind.TheVariants.{Byte, ShortInt, Int, LongInt}
use Rattle.sv_tree.specs.declared.leaves.Bound.{Bound}
use Rattle.sv_tree.specs.declared.types.Range.{Range}
use Rattle.sv_tree.specs.declared.types.Sign.{Sign}
use Rattle.sv_tree.specs.declared.types.DataType.{DataType}
use Rattle.sv_tree.specs.declared.types.DataType.TheVariants as types
use Rattle.sv_tree.specs.Classes.{word_of, class_at, is, is_class}
use Rattle.sv_tree.specs.Kinds.{vector_of, whole_of, signing_of}
use Rattle.sv_tree.specs.Types.{range_told, sign_told, type_told}
use Rattle.sv_tree.proofs.ClassLemmas.{is_fixed, knows}
use Rattle.sv_cursor.specs.Reading.{bound}
use Rattle.sv_cursor.proofs.Tokens.{apart_of, apart_by}
use Rattle.sv_cursor.proofs.LeafRules.{a_bound, bound_rule}
use Rattle.sv_types.specs.Reading as spec
use Rattle.sv_types.specs.Reading.{begins_sign, begins_vector, begins_whole, begins_dimension, begins_data_type}
use Rattle.sv_types.proofs.Choices.{Misses, misses_by, sum, sum_misses, chosen}
use Rattle.sv_types.proofs.Words.{value_apart, value_starts, vector_word, whole_word, signing_word, vector_reader, whole_reader, signing_reader}

-- ---- signings

abbrev pub a_sign : Kind Word Sign
a_sign = record { told = sign_told; grabs = λ _ _. false }

abbrev make_sign : ℕ → Signing → Sign
make_sign k s = record { token = k; signing = s }

pub sign_starts : Starts begins_sign a_sign
sign_starts n x r h = value_starts (λ t. signing_of (class_at t)) signing_word signing_reader x.signing

sign_rule_never : {live : Type 0} {d : ℕ} → Rule live never a_sign (λ x. x) d spec.sign
unfolding spec.sign
sign_rule_never = told_as a_sign (λ (p : ℕ × Signing). make_sign p.0 p.1) (λ x. x) (λ p. refl) (λ p t. refl) (λ s. ((s.token, s.signing), refl))
    (numbered make_sign (λ k s. and_then (spec.signing s) (λ g s. Ok (make_sign k g, s)))
    (λ k. mapped (make_sign k) (plainly (λ t. signing_of (class_at t)) signing_word signing_reader (λ g. refl) Signed)))

pub sign_rule : {live : Type 0} {before : Option Word → Bool} {d : ℕ} → Apart begins_sign before → Rule live before a_sign (λ x. x) d spec.sign
sign_rule {before = before} apart = put_apart begins_sign before sign_starts apart sign_rule_never

-- what goes on with a type that has this signing
abbrev pub sign_grabs : Option Sign → Option Word → Bool
sign_grabs = option_grabs begins_sign a_sign never

pub sign_free : (s : Option Sign) (t : Option Word) → begins_sign t ≡ false → sign_grabs s t ≡ false
sign_free None t e = or_both (begins_sign t) false e refl
sign_free (Some s) t e = refl

pub optional_sign_rule : {live : Type 0} {d : ℕ} → Rule live never (option begins_sign a_sign never) (λ o. o) d spec.optional_sign
optional_sign_rule = perhaps begins_sign never sign_starts (λ t e. refl) sign_rule_never

-- ---- ranges

-- "]"
abbrev pub a_close : Kind Word (Unit {0})
a_close = one (word_of classes.CloseBracket)

-- ":" bound "]"
abbrev pub after_left : Kind Word (Bound × Unit {0})
after_left = behind (word_of classes.Colon) (pair a_bound (λ _. a_close))

-- bound ":" bound "]"
abbrev pub bounds : Kind Word (Bound × (Bound × Unit {0}))
bounds = pair a_bound (λ _. after_left)

abbrev pub make_range : ℕ → Bound → Bound → Range
make_range k a b = record { token = k; left = a; right = b }

pub bound_alone : {live : Type 0} {d : ℕ} → Rule live never a_bound (λ x. x) d bound
bound_alone = bound_rule (λ t e. refl)

pub range_from_rule : {live : Type 0} {d : ℕ} (k : ℕ) → Rule live never bounds (λ p. make_range k p.0 p.1.0) d (spec.range_from k)
unfolding spec.range_from
range_from_rule k = seq (λ a. a) (λ a p. make_range k a p.0) _ bound_alone
    (λ a. token_then (is classes.Colon) (word_of classes.Colon) (knows classes.Colon refl) refl
    (seq (λ b. b) (λ b _. make_range k a b) _ bound_alone
    (λ b. last (is classes.CloseBracket) (word_of classes.CloseBracket) (make_range k a b) (knows classes.CloseBracket refl) refl)))

abbrev pub a_range : Kind Word Range
a_range = record { told = range_told; grabs = λ _ _. false }

pub range_starts : Starts begins_dimension a_range
range_starts n x r h = (knows classes.OpenBracket refl).yes

range_rule_never : {live : Type 0} {d : ℕ} → Rule live never a_range (λ x. x) d spec.range
unfolding spec.range
range_rule_never = told_as a_range (λ (p : ℕ × (Bound × (Bound × Unit {0}))). make_range p.0 p.1.0 p.1.1.0) (λ x. x) (λ p. refl) (λ p t. refl)
    (λ r. ((r.token, (r.left, (r.right, tt))), refl))
    (numbered (λ k p. make_range k p.0 p.1.0) (λ k s. and_then (expect (is classes.OpenBracket) s) (λ _. spec.range_from k))
    (λ k. token_then (is classes.OpenBracket) (word_of classes.OpenBracket) (knows classes.OpenBracket refl) refl (range_from_rule k)))

pub range_rule : {live : Type 0} {before : Option Word → Bool} {d : ℕ} → Apart begins_dimension before → Rule live before a_range (λ x. x) d spec.range
range_rule {before = before} apart = put_apart begins_dimension before range_starts apart range_rule_never

-- ---- vectors

-- no token goes on with a signing and opens a bracket
pub bracket_apart : (s : Option Sign) → Apart begins_dimension (sign_grabs s)
bracket_apart s t e = sign_free s t (apart_by classes.OpenBracket (λ o. is_there (signing_of o)) refl t e)

-- vec sign? range?
abbrev a_vector : Kind Word (ℕ × (VectorKind × (Option Sign × Option Range)))
a_vector = pair (place never) (λ _. pair (plain vector_word) (λ _. pair (option begins_sign a_sign never) (λ s. option begins_dimension a_range (sign_grabs s))))

vector_starts : Starts begins_vector a_vector
vector_starts n x r h = value_starts (λ t. vector_of (class_at t)) vector_word vector_reader x.1.0

vector_rule : {live : Type 0} {d : ℕ} → Rule live never a_vector (λ p. types.Vector p.0 p.1.0 p.1.1.0 p.1.1.1) d spec.vector
unfolding spec.vector
vector_rule = numbered (λ k p. types.Vector k p.0 p.1.0 p.1.1) _
    (λ k. seq (λ v. v) (λ v p. types.Vector k v p.0 p.1) _ (plainly (λ t. vector_of (class_at t)) vector_word vector_reader (λ v. refl) Bit)
    (λ v. seq (λ s. s) (λ s r. types.Vector k v s r) _ optional_sign_rule
    (λ s. mapped (λ r. types.Vector k v s r) (perhaps begins_dimension (sign_grabs s) range_starts (bracket_apart s) range_rule_never))))

-- ---- types that aren't vectors

-- whole sign?
abbrev a_whole : Kind Word (ℕ × (WholeKind × Option Sign))
a_whole = pair (place never) (λ _. pair (plain whole_word) (λ _. option begins_sign a_sign never))

whole_starts : Starts begins_whole a_whole
whole_starts n x r h = value_starts (λ t. whole_of (class_at t)) whole_word whole_reader x.1.0

whole_rule : {live : Type 0} {d : ℕ} → Rule live never a_whole (λ p. types.Whole p.0 p.1.0 p.1.1) d spec.whole
unfolding spec.whole
whole_rule = numbered (λ k p. types.Whole k p.0 p.1) _
    (λ k. seq (λ w. w) (λ w s. types.Whole k w s) _ (plainly (λ t. whole_of (class_at t)) whole_word whole_reader (λ w. refl) Int)
    (λ w. mapped (λ s. types.Whole k w s) optional_sign_rule))

-- a token alone, with its number
abbrev pub lone : Class → Kind Word (ℕ × Unit {0})
lone c = pair (place never) (λ _. one (word_of c))

pub lone_starts : (c : Class) → is_fixed c ≡ true → Starts (is c) (lone c)
lone_starts c fixed n x r h = (knows c fixed).yes

pub lone_rule : {Z : Type 0} {live : Type 0} {d : ℕ} (c : Class) → is_fixed c ≡ true → (make : ℕ → Z) → Rule live never (lone c) (λ p. make p.0) d (λ s. and_then (expect (is c) s) (λ _ s2. Ok (make s.place, s2)))
lone_rule c fixed make = numbered (λ k _. make k) (λ k s. and_then (expect (is c) s) (λ _ s. Ok (make k, s))) (λ k. last (is c) (word_of c) (make k) (knows c fixed) refl)

abbrev pub Plain : Type 0
Plain = (ℕ × (WholeKind × Option Sign)) ⊎ ((ℕ × Unit {0}) ⊎ ((ℕ × Unit {0}) ⊎ (ℕ × Unit {0})))

abbrev pub plain_of : Plain → DataType
plain_of (inl p) = types.Whole p.0 p.1.0 p.1.1
plain_of (inr (inl p)) = types.Integer p.0
plain_of (inr (inr (inl p))) = types.String p.0
plain_of (inr (inr (inr p))) = types.Chandle p.0

abbrev words_alone : Kind Word ((ℕ × Unit {0}) ⊎ (ℕ × Unit {0}))
words_alone = sum (lone classes.String) (lone classes.Chandle)

abbrev words_only : Kind Word ((ℕ × Unit {0}) ⊎ ((ℕ × Unit {0}) ⊎ (ℕ × Unit {0})))
words_only = sum (lone classes.Integer) words_alone

-- whole sign? | "integer" | "string" | "chandle"
abbrev pub plain_types : Kind Word Plain
plain_types = sum a_whole words_only

lone_misses : (c : Class) → is_fixed c ≡ true → (test : Option Word → Bool) → Apart (is c) test → Misses test (lone c)
lone_misses c fixed test apart = misses_by (is c) test (lone c) (lone_starts c fixed) apart

words_miss : (f : Option Class → Bool) → f (Some classes.Integer) ≡ false → f (Some classes.String) ≡ false → f (Some classes.Chandle) ≡ false → Misses (λ t. f (class_at t)) words_only
words_miss f a b c =
    let test : Option Word → Bool = λ t. f (class_at t) in
    sum_misses test (lone classes.Integer) words_alone (lone_misses classes.Integer refl test (apart_by classes.Integer f a))
    (sum_misses test (lone classes.String) (lone classes.Chandle) (lone_misses classes.String refl test (apart_by classes.String f b)) (lone_misses classes.Chandle refl test (apart_by classes.Chandle f c)))

pub plain_rule : {live : Type 0} {d : ℕ} → Rule live never plain_types plain_of d spec.plain_type
unfolding spec.plain_type spec.integer spec.string spec.chandle
plain_rule =
    chosen begins_whole a_whole words_only whole_starts (words_miss (λ o. is_there (whole_of o)) refl refl refl) plain_of whole_rule
    (chosen (is classes.Integer) (lone classes.Integer) words_alone (lone_starts classes.Integer refl)
    (sum_misses (is classes.Integer) (lone classes.String) (lone classes.Chandle)
    (lone_misses classes.String refl (is classes.Integer) (apart_of classes.String classes.Integer refl)) (lone_misses classes.Chandle refl (is classes.Integer) (apart_of classes.Chandle classes.Integer refl)))
    (λ x. plain_of (inr x)) (lone_rule classes.Integer refl types.Integer)
    (chosen (is classes.String) (lone classes.String) (lone classes.Chandle) (lone_starts classes.String refl) (lone_misses classes.Chandle refl (is classes.String) (apart_of classes.Chandle classes.String refl))
    (λ x. plain_of (inr (inr x))) (lone_rule classes.String refl types.String) (lone_rule classes.Chandle refl types.Chandle)))

whole_not_vector : (w : WholeKind) → begins_vector (Some (whole_word w)) ≡ false
whole_not_vector Byte = refl
whole_not_vector ShortInt = refl
whole_not_vector Int = refl
whole_not_vector LongInt = refl

pub plain_miss_vector : Misses begins_vector plain_types
plain_miss_vector = sum_misses begins_vector a_whole words_only
    (misses_by begins_whole begins_vector a_whole whole_starts (value_apart (λ t. whole_of (class_at t)) whole_word whole_reader begins_vector whole_not_vector))
    (words_miss (λ o. is_there (vector_of o)) refl refl refl)

-- ---- all types

-- what goes on with a type: a signing, and a bracket behind a vector
abbrev pub type_grabs : DataType → Option Word → Bool
type_grabs (types.Vector k v s r) = option_grabs begins_dimension a_range (sign_grabs s) r
type_grabs (types.Whole k w s) = sign_grabs s
type_grabs (types.Integer k) = never
type_grabs (types.String k) = never
type_grabs (types.Chandle k) = never

abbrev pub a_type : Kind Word DataType
a_type = record { told = type_told; grabs = type_grabs }

abbrev any_type : Kind Word ((ℕ × (VectorKind × (Option Sign × Option Range))) ⊎ Plain)
any_type = sum a_vector plain_types

abbrev type_of : (ℕ × (VectorKind × (Option Sign × Option Range))) ⊎ Plain → DataType
type_of (inl p) = types.Vector p.0 p.1.0 p.1.1.0 p.1.1.1
type_of (inr x) = plain_of x

pub plain_told : (x : Plain) → type_told (plain_of x) ≡ plain_types.told x
plain_told (inl p) = refl
plain_told (inr (inl p)) = refl
plain_told (inr (inr (inl p))) = refl
plain_told (inr (inr (inr p))) = refl

pub plain_grabs : (x : Plain) (t : Option Word) → type_grabs (plain_of x) t ≡ plain_types.grabs x t
plain_grabs (inl p) t = refl
plain_grabs (inr (inl p)) t = refl
plain_grabs (inr (inr (inl p))) t = refl
plain_grabs (inr (inr (inr p))) t = refl

told_type : (x : (ℕ × (VectorKind × (Option Sign × Option Range))) ⊎ Plain) → type_told (type_of x) ≡ any_type.told x
told_type (inl p) = refl
told_type (inr x) = plain_told x

grabs_type : (x : (ℕ × (VectorKind × (Option Sign × Option Range))) ⊎ Plain) (t : Option Word) → type_grabs (type_of x) t ≡ any_type.grabs x t
grabs_type (inl p) t = refl
grabs_type (inr x) t = plain_grabs x t

all_types : (z : DataType) → (x : (ℕ × (VectorKind × (Option Sign × Option Range))) ⊎ Plain) × (type_of x ≡ z)
all_types (types.Vector k v s r) = (inl (k, (v, (s, r))), refl)
all_types (types.Whole k w s) = (inr (inl (k, (w, s))), refl)
all_types (types.Integer k) = (inr (inr (inl (k, tt))), refl)
all_types (types.String k) = (inr (inr (inr (inl (k, tt)))), refl)
all_types (types.Chandle k) = (inr (inr (inr (inr (k, tt)))), refl)

type_rule_never : {live : Type 0} {d : ℕ} → Rule live never a_type (λ x. x) d spec.data_type
unfolding spec.data_type
type_rule_never = told_as a_type type_of (λ x. x) told_type grabs_type all_types
    (chosen begins_vector a_vector plain_types vector_starts plain_miss_vector type_of vector_rule plain_rule)

pub vector_begins : (v : VectorKind) → begins_data_type (Some (vector_word v)) ≡ true
vector_begins Bit = refl
vector_begins Logic = refl
vector_begins Reg = refl

whole_begins : (w : WholeKind) → begins_data_type (Some (whole_word w)) ≡ true
whole_begins Byte = refl
whole_begins ShortInt = refl
whole_begins Int = refl
whole_begins LongInt = refl

pub type_starts : Starts begins_data_type a_type
unfolding is_class
type_starts n (types.Vector k v s r) rest h = vector_begins v
type_starts n (types.Whole k w s) rest h = whole_begins w
type_starts n (types.Integer k) rest h = refl
type_starts n (types.String k) rest h = refl
type_starts n (types.Chandle k) rest h = refl

pub type_rule : {live : Type 0} {before : Option Word → Bool} {d : ℕ} → Apart begins_data_type before → Rule live before a_type (λ x. x) d spec.data_type
type_rule {before = before} apart = put_apart begins_data_type before type_starts apart type_rule_never

-- a type goes on with signings and brackets alone
pub type_free : (z : DataType) (t : Option Word) → begins_sign t ≡ false → begins_dimension t ≡ false → type_grabs z t ≡ false
type_free (types.Vector k v s None) t e f = or_both _ _ f (sign_free s t e)
type_free (types.Vector k v s (Some r)) t e f = refl
type_free (types.Whole k w s) t e f = sign_free s t e
type_free (types.Integer k) t e f = refl
type_free (types.String k) t e f = refl
type_free (types.Chandle k) t e f = refl
