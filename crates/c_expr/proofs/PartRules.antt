-- The parsers of parts that hold no expression are exact.
use Rattle.std.proofs.Common.{◌≡◌, ℕ, Bool, true, false, not, ◌||◌, ◌⊎◌, List, Option, Some, None, Ok, refl, ap, ◌∙◌}
use denote.Enum.Bare.{sameb}
use Rattle.dpi_grammar.specs.Parser.{and_then, expect, token, is_there}
use Rattle.dpi_grammar.proofs.Exact.{Kind, pair}
use Rattle.dpi_grammar.proofs.Rules.{Rule, never, place, behind, one, plain, plainly, numbered, token_then, last, mapped, seq}
use Rattle.dpi_grammar.proofs.Many.{Starts, Apart}
use Rattle.dpi_grammar.proofs.Choices.{either, sum, Off, starts_off, choice}
use Rattle.dpi_grammar.proofs.Firsts.{apart_back, but, starts_of}
use Rattle.dpi_lex.specs.Words.{Word}
use Rattle.c_tree.specs.contracts.class.Class.{the_type}
use Rattle.c_tree.specs.declared.class.Class.{Class}
use Rattle.c_tree.specs.declared.class.Class.TheVariants as classes
use Rattle.c_tree.specs.declared.leaves.Name.{Name}
use Rattle.c_tree.specs.declared.leaves.Number.{Number}
use Rattle.c_tree.specs.declared.leaves.Character.{Character}
use Rattle.c_tree.specs.declared.leaves.Text.{Text}
use Rattle.c_tree.specs.declared.operators.UnaryOperator.{UnaryOperator}
use Rattle.c_tree.specs.declared.operators.UnaryOperator.TheVariants as unary
use Rattle.c_tree.specs.declared.types.CType.{CType}
use Rattle.c_tree.specs.declared.types.Star.{Star}
use Rattle.c_tree.specs.declared.expr.Prefix.TheVariants as prefixes
use Rattle.c_tree.specs.declared.expr.Primary.{Primary}
use Rattle.c_tree.specs.declared.expr.Primary.TheVariants as forms
use Rattle.c_tree.specs.declared.expr.Suffix.{Suffix}
use Rattle.c_tree.specs.declared.expr.Suffix.TheVariants as suffix_forms
use Rattle.c_tree.specs.Classes.{class_at, is_class, is, word_of}
use Rattle.c_tree.specs.Bases.{base_word_of}
use Rattle.c_tree.specs.Operators.{unary_class, unary_of}
use Rattle.c_tree.proofs.ClassLemmas.{is_fixed, knows}
use Rattle.c_cursor.specs.Reading.{name, number, character, text}
use Rattle.c_cursor.proofs.Tokens.{class_at_word, apart_by, apart_of}
use Rattle.c_cursor.proofs.LeafRules.{a_name, a_number, a_character, a_text, name_rule, number_rule, character_rule, text_rule}
use Rattle.c_types.specs.Reading.{begins_type, stars}
use Rattle.c_types.proofs.TypeRules.{a_type, some_stars, type_rule, stars_rule, type_starts, behind_type, behind_stars}
use Rattle.c_expr.specs.declared.lead.Lead.{Lead}
use Rattle.c_expr.specs.declared.lead.Lead.TheVariants as leads
use Rattle.c_expr.specs.Front.{is_sign, begins_sign, begins_lead}
use Rattle.c_expr.specs.Reading as spec
use Rattle.c_expr.proofs.Operators.{unary_back, unary_fixed, unary_reader, plain_no_lead}
use Rattle.c_expr.proofs.Beginnings.{pair_starts, sum_off}

-- ---- one token

-- the end is of no class
pub no_class : (c : Class) → is c None ≡ false
unfolding is_class
no_class c = refl

-- a token and its number
abbrev pub a_mark : Class → Kind Word (ℕ × Unit {0})
a_mark c = pair (place never) (λ _. one (word_of c))

pub mark_starts : (c : Class) → is_fixed c ≡ true → Starts (is c) (a_mark c)
mark_starts c fixed n x r h = (knows c fixed).yes

pub name_starts : Starts (is classes.Name) a_name
name_starts =
    let rule : Rule (Unit {0}) (λ t. not (is classes.Name t)) a_name (λ x. x) 0 name = name_rule (but (is classes.Name)) in
    starts_of (is classes.Name) (no_class classes.Name) (λ x. refl) rule

pub number_starts : Starts (is classes.Number) a_number
number_starts =
    let rule : Rule (Unit {0}) (λ t. not (is classes.Number t)) a_number (λ x. x) 0 number = number_rule (but (is classes.Number)) in
    starts_of (is classes.Number) (no_class classes.Number) (λ x. refl) rule

pub character_starts : Starts (is classes.Character) a_character
character_starts =
    let rule : Rule (Unit {0}) (λ t. not (is classes.Character t)) a_character (λ x. x) 0 character = character_rule (but (is classes.Character)) in
    starts_of (is classes.Character) (no_class classes.Character) (λ x. refl) rule

pub text_starts : Starts (is classes.Text) a_text
text_starts =
    let rule : Rule (Unit {0}) (λ t. not (is classes.Text t)) a_text (λ x. x) 0 text = text_rule (but (is classes.Text)) in
    starts_of (is classes.Text) (no_class classes.Text) (λ x. refl) rule

-- trees that begin with a token of another class
pub off_class : {X : Type 0} (a b : Class) (K : Kind Word X) → sameb the_type a b ≡ false → Starts (is b) K → Off (is a) K
off_class a b K other starts = starts_off (is b) (is a) K starts (apart_of b a other)

-- ---- number | character | string | "NULL"

abbrev pub null_value : ℕ × Unit {0} → Primary
null_value p = forms.Null p.0

null_rule : {live : Type 0} {d : ℕ} → Rule live never (a_mark classes.Null) null_value d spec.null
unfolding spec.null
null_rule =
    numbered (λ k _. forms.Null k) (λ k s. and_then (expect (is classes.Null) s) (λ _ s. Ok (forms.Null k, s)))
    (λ k. last (is classes.Null) (word_of classes.Null) (forms.Null k) (knows classes.Null refl) refl)

abbrev pub a_text_or_null : Kind Word (Text ⊎ (ℕ × Unit {0}))
a_text_or_null = sum a_text (a_mark classes.Null)

text_or_null_rule : {live : Type 0} {d : ℕ} → Rule live never a_text_or_null (either (λ t. forms.Text t) null_value) d spec.text_or_null
unfolding spec.text_or_null
text_or_null_rule =
    choice (is classes.Text) text_starts (off_class classes.Text classes.Null (a_mark classes.Null) refl (mark_starts classes.Null refl))
    (mapped (λ t. forms.Text t) (text_rule (λ t e. refl))) null_rule

abbrev pub a_literal : Kind Word (Number ⊎ (Character ⊎ (Text ⊎ (ℕ × Unit {0}))))
a_literal = sum a_number (sum a_character a_text_or_null)

abbrev pub literal_value : Number ⊎ (Character ⊎ (Text ⊎ (ℕ × Unit {0}))) → Primary
literal_value = either (λ n. forms.Number n) (either (λ c. forms.Character c) (either (λ t. forms.Text t) null_value))

-- no literal begins with a token that passes the test, where its class doesn't
pub literal_off : (begins : Option Word → Bool) → Apart (is classes.Number) begins → Apart (is classes.Character) begins → Apart (is classes.Text) begins → Apart (is classes.Null) begins → Off begins a_literal
literal_off begins p q r s =
    sum_off begins a_number (sum a_character a_text_or_null) (starts_off (is classes.Number) begins a_number number_starts p)
    (sum_off begins a_character a_text_or_null (starts_off (is classes.Character) begins a_character character_starts q)
    (sum_off begins a_text (a_mark classes.Null) (starts_off (is classes.Text) begins a_text text_starts r) (starts_off (is classes.Null) begins (a_mark classes.Null) (mark_starts classes.Null refl) s)))

pub literal_no_lead : Off begins_lead a_literal
literal_no_lead =
    literal_off begins_lead (plain_no_lead classes.Number refl) (plain_no_lead classes.Character refl) (plain_no_lead classes.Text refl) (plain_no_lead classes.Null refl)

text_or_null_off : (a : Class) → sameb the_type a classes.Text ≡ false → sameb the_type a classes.Null ≡ false → Off (is a) a_text_or_null
text_or_null_off a r s = sum_off (is a) a_text (a_mark classes.Null) (off_class a classes.Text a_text r text_starts) (off_class a classes.Null (a_mark classes.Null) s (mark_starts classes.Null refl))

pub literal_rule : {live : Type 0} {d : ℕ} → Rule live never a_literal literal_value d spec.literal
unfolding spec.literal
literal_rule =
    choice (is classes.Number) number_starts
    (sum_off (is classes.Number) a_character a_text_or_null (off_class classes.Number classes.Character a_character refl character_starts) (text_or_null_off classes.Number refl refl))
    (mapped (λ n. forms.Number n) (number_rule (λ t e. refl)))
    (choice (is classes.Character) character_starts (text_or_null_off classes.Character refl refl) (mapped (λ c. forms.Character c) (character_rule (λ t e. refl))) text_or_null_rule)

-- ---- "." id | "->" id | "++" | "--"

-- a token with its number, and a name
abbrev pub a_marked_name : Class → Kind Word (ℕ × Name)
a_marked_name c = pair (place never) (λ _. behind (word_of c) a_name)

pub marked_name_starts : (c : Class) → is_fixed c ≡ true → Starts (is c) (a_marked_name c)
marked_name_starts c fixed n x r h = (knows c fixed).yes

member_rule : {live : Type 0} {d : ℕ} → Rule live never (a_marked_name classes.Dot) (λ p. suffix_forms.Member p.0 p.1) d spec.member
unfolding spec.member
member_rule =
    numbered (λ k n. suffix_forms.Member k n) (λ k s. and_then (expect (is classes.Dot) s) (λ _ s. and_then (name s) (λ n s. Ok (suffix_forms.Member k n, s))))
    (λ k. token_then (is classes.Dot) (word_of classes.Dot) (knows classes.Dot refl) refl (mapped (λ n. suffix_forms.Member k n) (name_rule (λ t e. refl))))

arrow_rule : {live : Type 0} {d : ℕ} → Rule live never (a_marked_name classes.Arrow) (λ p. suffix_forms.Arrow p.0 p.1) d spec.arrow
unfolding spec.arrow
arrow_rule =
    numbered (λ k n. suffix_forms.Arrow k n) (λ k s. and_then (expect (is classes.Arrow) s) (λ _ s. and_then (name s) (λ n s. Ok (suffix_forms.Arrow k n, s))))
    (λ k. token_then (is classes.Arrow) (word_of classes.Arrow) (knows classes.Arrow refl) refl (mapped (λ n. suffix_forms.Arrow k n) (name_rule (λ t e. refl))))

increment_rule : {live : Type 0} {d : ℕ} → Rule live never (a_mark classes.Increment) (λ p. suffix_forms.Increment p.0) d spec.increment
unfolding spec.increment
increment_rule =
    numbered (λ k _. suffix_forms.Increment k) (λ k s. and_then (expect (is classes.Increment) s) (λ _ s. Ok (suffix_forms.Increment k, s)))
    (λ k. last (is classes.Increment) (word_of classes.Increment) (suffix_forms.Increment k) (knows classes.Increment refl) refl)

decrement_rule : {live : Type 0} {d : ℕ} → Rule live never (a_mark classes.Decrement) (λ p. suffix_forms.Decrement p.0) d spec.decrement
unfolding spec.decrement
decrement_rule =
    numbered (λ k _. suffix_forms.Decrement k) (λ k s. and_then (expect (is classes.Decrement) s) (λ _ s. Ok (suffix_forms.Decrement k, s)))
    (λ k. last (is classes.Decrement) (word_of classes.Decrement) (suffix_forms.Decrement k) (knows classes.Decrement refl) refl)

abbrev pub a_step : Kind Word ((ℕ × Unit {0}) ⊎ (ℕ × Unit {0}))
a_step = sum (a_mark classes.Increment) (a_mark classes.Decrement)

abbrev pub step_value : (ℕ × Unit {0}) ⊎ (ℕ × Unit {0}) → Suffix
step_value = either (λ p. suffix_forms.Increment p.0) (λ p. suffix_forms.Decrement p.0)

step_off : (a : Class) → sameb the_type a classes.Increment ≡ false → sameb the_type a classes.Decrement ≡ false → Off (is a) a_step
step_off a p q =
    sum_off (is a) (a_mark classes.Increment) (a_mark classes.Decrement) (off_class a classes.Increment (a_mark classes.Increment) p (mark_starts classes.Increment refl))
    (off_class a classes.Decrement (a_mark classes.Decrement) q (mark_starts classes.Decrement refl))

step_rule : {live : Type 0} {d : ℕ} → Rule live never a_step step_value d spec.stepped
unfolding spec.stepped
step_rule = choice (is classes.Increment) (mark_starts classes.Increment refl) (off_class classes.Increment classes.Decrement (a_mark classes.Decrement) refl (mark_starts classes.Decrement refl)) increment_rule decrement_rule

abbrev pub a_flat_suffix : Kind Word ((ℕ × Name) ⊎ ((ℕ × Name) ⊎ ((ℕ × Unit {0}) ⊎ (ℕ × Unit {0}))))
a_flat_suffix = sum (a_marked_name classes.Dot) (sum (a_marked_name classes.Arrow) a_step)

abbrev pub flat_suffix_value : (ℕ × Name) ⊎ ((ℕ × Name) ⊎ ((ℕ × Unit {0}) ⊎ (ℕ × Unit {0}))) → Suffix
flat_suffix_value = either (λ p. suffix_forms.Member p.0 p.1) (either (λ p. suffix_forms.Arrow p.0 p.1) step_value)

behind_dot_off : (a : Class) → sameb the_type a classes.Arrow ≡ false → sameb the_type a classes.Increment ≡ false → sameb the_type a classes.Decrement ≡ false → Off (is a) (sum (a_marked_name classes.Arrow) a_step)
behind_dot_off a p q r = sum_off (is a) (a_marked_name classes.Arrow) a_step (off_class a classes.Arrow (a_marked_name classes.Arrow) p (marked_name_starts classes.Arrow refl)) (step_off a q r)

-- none of these is an index
pub flat_suffix_off : Off (is classes.OpenBracket) a_flat_suffix
flat_suffix_off =
    sum_off (is classes.OpenBracket) (a_marked_name classes.Dot) (sum (a_marked_name classes.Arrow) a_step)
    (off_class classes.OpenBracket classes.Dot (a_marked_name classes.Dot) refl (marked_name_starts classes.Dot refl)) (behind_dot_off classes.OpenBracket refl refl refl)

pub flat_suffix_rule : {live : Type 0} {d : ℕ} → Rule live never a_flat_suffix flat_suffix_value d spec.flat_suffix
unfolding spec.flat_suffix
flat_suffix_rule =
    choice (is classes.Dot) (marked_name_starts classes.Dot refl) (behind_dot_off classes.Dot refl refl refl) member_rule
    (choice (is classes.Arrow) (marked_name_starts classes.Arrow refl) (step_off classes.Arrow refl refl) arrow_rule step_rule)

-- ---- prefixes

abbrev pub sign_word : UnaryOperator → Word
sign_word u = word_of (unary_class u)

abbrev pub a_sign : Kind Word (ℕ × UnaryOperator)
a_sign = pair (place never) (λ _. plain sign_word)

pub sign_starts : Starts begins_sign a_sign
sign_starts n (k, u) r h = ap is_sign (class_at_word (unary_class u) (unary_fixed u)) ∙ ap is_there (unary_back u)

-- no operator is a `(`
pub sign_off : Off (is classes.OpenParen) a_sign
sign_off = starts_off begins_sign (is classes.OpenParen) a_sign sign_starts (apart_back (is classes.OpenParen) begins_sign (apart_by classes.OpenParen is_sign refl))

abbrev pub sign_value : ℕ × UnaryOperator → Lead
sign_value p = leads.Prefix (prefixes.Sign p.0 p.1)

pub sign_rule : {live : Type 0} {d : ℕ} → Rule live never a_sign sign_value d spec.sign
unfolding spec.sign
sign_rule =
    numbered (λ k o. leads.Prefix (prefixes.Sign k o)) (λ k s. and_then (token (λ t. unary_of (class_at t)) s) (λ o s. Ok (leads.Prefix (prefixes.Sign k o), s)))
    (λ k. mapped (λ o. leads.Prefix (prefixes.Sign k o)) (plainly (λ t. unary_of (class_at t)) sign_word unary_reader (λ u. refl) unary.Plus))

-- what a type begins with, by its class
abbrev type_class : Option Class → Bool
type_class c = is_class classes.Const c || is_there (base_word_of c)

star_other : type_class (Some classes.Star) ≡ false
unfolding is_class
star_other = refl

close_other : type_class (Some classes.CloseParen) ≡ false
unfolding is_class
close_other = refl

star_apart : Apart (is classes.Star) begins_type
star_apart = apart_by classes.Star type_class star_other

close_apart : Apart (is classes.CloseParen) begins_type
close_apart = apart_by classes.CloseParen type_class close_other

-- type stars ")"
abbrev pub a_cast : Kind Word (CType × (List Star × Unit {0}))
a_cast = pair a_type (λ t. pair (some_stars (a_type.grabs t)) (λ _. one (word_of classes.CloseParen)))

pub cast_starts : Starts begins_type a_cast
cast_starts = pair_starts begins_type a_type (λ t. pair (some_stars (a_type.grabs t)) (λ _. one (word_of classes.CloseParen))) type_starts

abbrev pub cast_value : ℕ → CType × (List Star × Unit {0}) → Lead
cast_value k x = leads.Prefix (prefixes.Cast k x.0 x.1.0)

-- the `)` stands behind the whole type
close_behind : (t : CType) (ss : List Star) → (some_stars (a_type.grabs t)).grabs ss (Some (word_of classes.CloseParen)) ≡ false
close_behind t ss =
    behind_stars (is classes.CloseParen) (a_type.grabs t) (apart_of classes.CloseParen classes.Star refl) (apart_of classes.CloseParen classes.Const refl) (behind_type (is classes.CloseParen) close_apart t) ss (Some (word_of classes.CloseParen))
    (knows classes.CloseParen refl).yes

pub cast_rule : {live : Type 0} {d : ℕ} (k : ℕ) → Rule live never a_cast (cast_value k) d (spec.cast k)
unfolding spec.cast
cast_rule k =
    seq (λ t. t) (λ t x. leads.Prefix (prefixes.Cast k t x.0)) (λ t s. and_then (stars s) (λ ss s. and_then (expect (is classes.CloseParen) s) (λ _ s. Ok (leads.Prefix (prefixes.Cast k t ss), s))))
    (type_rule (λ t e. refl))
    (λ t. seq (λ ss. ss) (λ ss _. leads.Prefix (prefixes.Cast k t ss)) (λ ss s. and_then (expect (is classes.CloseParen) s) (λ _ s. Ok (leads.Prefix (prefixes.Cast k t ss), s)))
    (stars_rule (behind_type (is classes.Star) star_apart t))
    (λ ss. last (is classes.CloseParen) (word_of classes.CloseParen) (leads.Prefix (prefixes.Cast k t ss)) (knows classes.CloseParen refl) (close_behind t ss)))
