-- The parsers of parts of one token are exact.
use Rattle.std.proofs.Common.{ℕ, Bool, false, List, [], Option, codes, refl}
use Rattle.dpi_grammar.specs.Parser.{and_then, token}
use Rattle.dpi_grammar.proofs.Exact.{Kind}
use Rattle.dpi_grammar.proofs.Rules.{Rule, mapped, told_as, numbered, tokened, plainly}
use Rattle.dpi_grammar.proofs.Many.{Apart}
use Rattle.dpi_lex.specs.Words.{Word}
use Rattle.c_tree.specs.declared.class.Class.TheVariants as classes
use Rattle.c_tree.specs.declared.leaves.Name.{Name}
use Rattle.c_tree.specs.declared.leaves.Number.{Number}
use Rattle.c_tree.specs.declared.leaves.Text.{Text}
use Rattle.c_tree.specs.declared.leaves.Character.{Character}
use Rattle.c_tree.specs.declared.leaves.Define.{Define}
use Rattle.c_tree.specs.Classes.{a_word, is}
use Rattle.c_tree.specs.Leaves.{is_name, number_word, character_word, text_word, define_word, name_told, number_told, character_told, text_told, define_told}
use Rattle.c_cursor.specs.Reading as spec
use Rattle.c_cursor.specs.Reading.{bytes_if}
use Rattle.c_cursor.proofs.Tokens.{name_class, number_class, character_class, text_class, define_class, name_reader, number_reader, character_reader, text_reader, define_reader}

-- ---- kinds

abbrev pub a_name : Kind Word Name
a_name = record { told = name_told; grabs = λ _ _. false }

abbrev pub a_number : Kind Word Number
a_number = record { told = number_told; grabs = λ _ _. false }

abbrev pub a_text : Kind Word Text
a_text = record { told = text_told; grabs = λ _ _. false }

abbrev pub a_character : Kind Word Character
a_character = record { told = character_told; grabs = λ _ _. false }

abbrev pub a_define : Kind Word Define
a_define = record { told = define_told; grabs = λ _ _. false }

-- ---- one token

pub name_rule : {live : Type 0} {before : Option Word → Bool} {d : ℕ} → Apart (is classes.Name) before → Rule live before a_name (λ x. x) d spec.name
unfolding spec.name
name_rule {before = before} apart =
    told_as a_name (λ (p : ℕ × List ℕ). let n : Name = record { token = p.0; bytes = p.1 } in n) (λ x. x) (λ p. refl) (λ p t. refl) (λ n. ((n.token, n.bytes), refl))
    (numbered (λ k b. let n : Name = record { token = k; bytes = b } in n) (λ k s. and_then (token (bytes_if classes.Name) s) (λ b s. _))
    (λ k. mapped (λ b. let n : Name = record { token = k; bytes = b } in n) (tokened (bytes_if classes.Name) is_name a_word name_reader (λ b good. apart _ (name_class b good)) (codes "a") refl)))

pub number_rule : {live : Type 0} {before : Option Word → Bool} {d : ℕ} → Apart (is classes.Number) before → Rule live before a_number (λ x. x) d spec.number
unfolding spec.number
number_rule {before = before} apart =
    told_as a_number (λ (p : ℕ × List ℕ). let n : Number = record { token = p.0; bytes = p.1 } in n) (λ x. x) (λ p. refl) (λ p t. refl) (λ n. ((n.token, n.bytes), refl))
    (numbered (λ k b. let n : Number = record { token = k; bytes = b } in n) (λ k s. and_then (token (bytes_if classes.Number) s) (λ b s. _))
    (λ k. mapped (λ b. let n : Number = record { token = k; bytes = b } in n) (plainly (bytes_if classes.Number) number_word number_reader (λ b. apart _ (number_class b)) [])))

pub text_rule : {live : Type 0} {before : Option Word → Bool} {d : ℕ} → Apart (is classes.Text) before → Rule live before a_text (λ x. x) d spec.text
unfolding spec.text
text_rule {before = before} apart =
    told_as a_text (λ (p : ℕ × List ℕ). let n : Text = record { token = p.0; bytes = p.1 } in n) (λ x. x) (λ p. refl) (λ p t. refl) (λ n. ((n.token, n.bytes), refl))
    (numbered (λ k b. let n : Text = record { token = k; bytes = b } in n) (λ k s. and_then (token (bytes_if classes.Text) s) (λ b s. _))
    (λ k. mapped (λ b. let n : Text = record { token = k; bytes = b } in n) (plainly (bytes_if classes.Text) text_word text_reader (λ b. apart _ (text_class b)) [])))

pub character_rule : {live : Type 0} {before : Option Word → Bool} {d : ℕ} → Apart (is classes.Character) before → Rule live before a_character (λ x. x) d spec.character
unfolding spec.character
character_rule {before = before} apart =
    told_as a_character (λ (p : ℕ × List ℕ). let n : Character = record { token = p.0; bytes = p.1 } in n) (λ x. x) (λ p. refl) (λ p t. refl) (λ n. ((n.token, n.bytes), refl))
    (numbered (λ k b. let n : Character = record { token = k; bytes = b } in n) (λ k s. and_then (token (bytes_if classes.Character) s) (λ b s. _))
    (λ k. mapped (λ b. let n : Character = record { token = k; bytes = b } in n) (plainly (bytes_if classes.Character) character_word character_reader (λ b. apart _ (character_class b)) [])))

pub define_rule : {live : Type 0} {before : Option Word → Bool} {d : ℕ} → Apart (is classes.Define) before → Rule live before a_define (λ x. x) d spec.define
unfolding spec.define
define_rule {before = before} apart =
    told_as a_define (λ (p : ℕ × List ℕ). let n : Define = record { token = p.0; bytes = p.1 } in n) (λ x. x) (λ p. refl) (λ p t. refl) (λ n. ((n.token, n.bytes), refl))
    (numbered (λ k b. let n : Define = record { token = k; bytes = b } in n) (λ k s. and_then (token (bytes_if classes.Define) s) (λ b s. _))
    (λ k. mapped (λ b. let n : Define = record { token = k; bytes = b } in n) (plainly (bytes_if classes.Define) define_word define_reader (λ b. apart _ (define_class b)) [])))
