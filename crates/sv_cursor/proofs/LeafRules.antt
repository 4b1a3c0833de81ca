-- The parsers of parts of one or two tokens are exact.
use Rattle.std.proofs.Common.{◌≡◌, ℕ, Bool, true, false, ◌||◌, if◌then◌else◌, List, [], Option, Some, None, codes, refl, ap}
use Rattle.dpi_grammar.specs.Parser.{and_then, expect, is_there, token}
use Rattle.dpi_grammar.proofs.Exact.{Kind}
use Rattle.dpi_grammar.proofs.Rules.{Rule, seq, mapped, told_as, numbered, token_then, expected, one, tokened, plainly}
use Rattle.dpi_grammar.proofs.Many.{Apart, Starts, or_both, option, perhaps}
use Rattle.dpi_lex.specs.Words.{Word}
use Rattle.sv_tree.specs.declared.class.Class.TheVariants as classes
use Rattle.sv_tree.specs.declared.leaves.Name.{Name}
use Rattle.sv_tree.specs.declared.leaves.Number.{Number}
use Rattle.sv_tree.specs.declared.leaves.Text.{Text}
use Rattle.sv_tree.specs.declared.leaves.Bound.{Bound}
use Rattle.sv_tree.specs.declared.statements.Label.{Label}
use Rattle.sv_tree.specs.Classes.{a_word, word_of, is}
use Rattle.sv_tree.specs.Expressions.{is_name, number_word, text_word, name_told, number_told, text_told, minus_told, bound_told}
use Rattle.sv_tree.specs.Statements.{label_told}
use Rattle.sv_tree.proofs.ClassLemmas.{knows}
use Rattle.sv_cursor.specs.Reading as spec
use Rattle.sv_cursor.specs.Reading.{bytes_if}
use Rattle.sv_cursor.proofs.Tokens.{apart_of, name_class, number_class, text_class, name_reader, number_reader, text_reader}

-- ---- kinds

abbrev pub a_name : Kind Word Name
a_name = record { told = name_told; grabs = λ _ _. false }

abbrev pub a_number : Kind Word Number
a_number = record { told = number_told; grabs = λ _ _. false }

abbrev pub a_text : Kind Word Text
a_text = record { told = text_told; grabs = λ _ _. false }

abbrev pub a_bound : Kind Word Bound
a_bound = record { told = bound_told; grabs = λ _ _. false }

abbrev pub a_label : Kind Word Label
a_label = record { told = label_told; grabs = λ _ _. false }

-- ---- one token

pub name_rule : {live : Type 0} {before : Option Word → Bool} {d : ℕ} → Apart (is classes.Name) before → Rule live before a_name (λ x. x) d spec.name
unfolding spec.name
name_rule {before = before} apart =
    told_as a_name (λ (p : ℕ × List ℕ). let n : Name = record { token = p.0; bytes = p.1 } in n) (λ x. x) (λ p. refl) (λ p t. refl) (λ n. ((n.token, n.bytes), refl))
    (numbered (λ k b. let n : Name = record { token = k; bytes = b } in n) (λ k s. and_then (token (bytes_if classes.Name) s) (λ b s. _))
    (λ k. mapped (λ b. let n : Name = record { token = k; bytes = b } in n) (tokened (bytes_if classes.Name) is_name a_word name_reader (λ b good. apart _ (name_class b good)) (codes "a") refl)))

pub number_rule : {live : Type 0} {before : Option Word → Bool} {d : ℕ} → Apart (is classes.Number) before → Rule live before a_number (λ x. x) d spec.number
unfolding spec.number
number_rule {before = before} apart =
    told_as a_number (λ (p : ℕ × List ℕ). let n : Number = record { token = p.0; bytes = p.1 } in n) (λ x. x) (λ p. refl) (λ p t. refl) (λ n. ((n.token, n.bytes), refl))
    (numbered (λ k b. let n : Number = record { token = k; bytes = b } in n) (λ k s. and_then (token (bytes_if classes.Number) s) (λ b s. _))
    (λ k. mapped (λ b. let n : Number = record { token = k; bytes = b } in n) (plainly (bytes_if classes.Number) number_word number_reader (λ b. apart _ (number_class b)) [])))

pub text_rule : {live : Type 0} {before : Option Word → Bool} {d : ℕ} → Apart (is classes.Text) before → Rule live before a_text (λ x. x) d spec.text
unfolding spec.text
text_rule {before = before} apart =
    told_as a_text (λ (p : ℕ × List ℕ). let n : Text = record { token = p.0; bytes = p.1 } in n) (λ x. x) (λ p. refl) (λ p t. refl) (λ n. ((n.token, n.bytes), refl))
    (numbered (λ k b. let n : Text = record { token = k; bytes = b } in n) (λ k s. and_then (token (bytes_if classes.Text) s) (λ b s. _))
    (λ k. mapped (λ b. let n : Text = record { token = k; bytes = b } in n) (plainly (bytes_if classes.Text) text_word text_reader (λ b. apart _ (text_class b)) [])))

-- ---- a bound

-- a `-`, or none
abbrev pub a_minus : (Option Word → Bool) → Kind Word Bool
a_minus before = record { told = minus_told; grabs = λ b t. if b then false else (is classes.Minus t || before t) }

abbrev pub begins_bound : Option Word → Bool
begins_bound t = is classes.Minus t || is classes.Number t

minus_all : (b : Bool) → (o : Option (Unit {0})) × (is_there o ≡ b)
minus_all true = (Some tt, refl)
minus_all false = (None, refl)

minus_tells : (before : Option Word → Bool) (o : Option (Unit {0})) → minus_told (is_there o) ≡ (option (is classes.Minus) (one (word_of classes.Minus)) before).told o
minus_tells before None = refl
minus_tells before (Some u) = refl

minus_grabs : (before : Option Word → Bool) (o : Option (Unit {0})) (t : Option Word) → (a_minus before).grabs (is_there o) t ≡ (option (is classes.Minus) (one (word_of classes.Minus)) before).grabs o t
minus_grabs before None t = refl
minus_grabs before (Some u) t = refl

minus_starts : Starts (is classes.Minus) (one (word_of classes.Minus))
minus_starts n x r h = (knows classes.Minus refl).yes

minus_rule : {live : Type 0} {before : Option Word → Bool} {d : ℕ} → Apart (is classes.Minus) before → Rule live before (a_minus before) (λ x. x) d spec.minus
unfolding spec.minus
minus_rule {before = before} apart =
    told_as (a_minus before) is_there (λ b. b) (minus_tells before) (minus_grabs before) minus_all
    (mapped is_there (perhaps (is classes.Minus) before minus_starts apart (expected (is classes.Minus) (word_of classes.Minus) (knows classes.Minus refl) refl)))

left_apart : (before : Option Word → Bool) → Apart begins_bound before → Apart (is classes.Minus) before
left_apart before apart t e = apart t (ap (λ b. b || is classes.Number t) e)

right_true : (a b : Bool) → b ≡ true → (a || b) ≡ true
right_true true b e = refl
right_true false b e = e

right_apart : (before : Option Word → Bool) → Apart begins_bound before → Apart (is classes.Number) before
right_apart before apart t e = apart t (right_true (is classes.Minus t) (is classes.Number t) e)

number_free : (before : Option Word → Bool) → Apart begins_bound before → (b : Bool) → Apart (is classes.Number) ((a_minus before).grabs b)
number_free before apart true t e = refl
number_free before apart false t e = or_both _ _ (apart_of classes.Number classes.Minus refl t e) (right_apart before apart t e)

pub bound_rule : {live : Type 0} {before : Option Word → Bool} {d : ℕ} → Apart begins_bound before → Rule live before a_bound (λ x. x) d spec.bound
unfolding spec.bound
bound_rule {before = before} apart =
    told_as a_bound (λ (p : ℕ × (Bool × Number)). let b : Bound = record { token = p.0; negative = p.1.0; number = p.1.1 } in b) (λ x. x) (λ p. refl) (λ p t. refl)
    (λ b. ((b.token, (b.negative, b.number)), refl))
    (numbered (λ k p. let b : Bound = record { token = k; negative = p.0; number = p.1 } in b) (λ k s. and_then (spec.minus s) (λ b s. and_then (spec.number s) (λ n s. _)))
    (λ k. seq (λ b. b) (λ b n. let x : Bound = record { token = k; negative = b; number = n } in x) (λ b s. and_then (spec.number s) (λ n s. _))
    (minus_rule (left_apart before apart))
    (λ b. mapped (λ n. let x : Bound = record { token = k; negative = b; number = n } in x) (number_rule (number_free before apart b)))))

-- ---- a label

pub label_rule : {live : Type 0} {before : Option Word → Bool} {d : ℕ} → Apart (is classes.Colon) before → Rule live before a_label (λ x. x) d spec.label
unfolding spec.label
label_rule {before = before} apart =
    told_as a_label (λ (p : ℕ × Name). let l : Label = record { token = p.0; name = p.1 } in l) (λ x. x) (λ p. refl) (λ p t. refl) (λ l. ((l.token, l.name), refl))
    (numbered (λ k n. let l : Label = record { token = k; name = n } in l) (λ k s. and_then (expect (is classes.Colon) s) (λ _ s. _))
    (λ k. token_then (is classes.Colon) (word_of classes.Colon) (knows classes.Colon refl) (apart _ (knows classes.Colon refl).yes)
    (mapped (λ n. let l : Label = record { token = k; name = n } in l) (name_rule (λ t e. refl)))))

label_starts : Starts (is classes.Colon) a_label
label_starts n x r h = (knows classes.Colon refl).yes

-- a label where a `:` comes next
abbrev pub a_label_or_none : (Option Word → Bool) → Kind Word (Option Label)
a_label_or_none before = option (is classes.Colon) a_label before

pub optional_label_rule : {live : Type 0} {before : Option Word → Bool} {d : ℕ} → Apart (is classes.Colon) before
    → Rule live before (a_label_or_none before) (λ x. x) d spec.optional_label
optional_label_rule {before = before} apart = perhaps (is classes.Colon) before label_starts apart (label_rule (λ t e. refl))
