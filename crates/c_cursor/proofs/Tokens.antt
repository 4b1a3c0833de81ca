-- First tokens: which tests a token passes, and tokens that stand for a value.
use Rattle.std.proofs.Common.{◌≡◌, ℕ, Bool, true, false, List, Option, Some, None, refl, ap, ◌∙◌, subst}
use denote.Enum.Bare.{sameb, true_same}
use Rattle.dpi_grammar.proofs.Rules.{Reader, always}
use Rattle.dpi_grammar.proofs.Many.{Apart}
use Rattle.dpi_lex.specs.Words.{Word}
use Rattle.c_tree.specs.contracts.class.Class.{the_type}
use Rattle.c_tree.specs.declared.class.Class.{Class}
use Rattle.c_tree.specs.declared.class.Class.TheVariants as classes
use Rattle.c_tree.specs.Classes.{a_word, word_of, class_at, is_class, is}
use Rattle.c_tree.specs.Leaves.{is_name, number_word, character_word, text_word, define_word}
use Rattle.c_tree.proofs.ClassLemmas.{is_fixed, knows, class_of_word, class_when, when_class, not_class, name_is, number_is, character_is, text_is, define_is}
use Rattle.c_cursor.specs.Reading.{bytes_at, bytes_where, bytes_if}

-- a token that passes the test for a class has it
pub class_is : (c : Class) (t : Option Word) → is c t ≡ true → class_at t ≡ Some c
unfolding is_class
class_is c None e = cc
class_is c (Some w) e = ap Some (class_when c w e)

-- the word of a class has it
pub class_at_word : (c : Class) → is_fixed c ≡ true → class_at (Some (word_of c)) ≡ Some c
class_at_word c fixed = ap Some (class_of_word c fixed)

-- A token that has a class passes no test that this class doesn't pass.
pub apart_by : (c : Class) (f : Option Class → Bool) → f (Some c) ≡ false → Apart (is c) (λ t. f (class_at t))
apart_by c f other t e = ap f (class_is c t e) ∙ other

-- no token has two classes
pub apart_of : (a b : Class) → sameb the_type b a ≡ false → Apart (is a) (is b)
apart_of a b other t e = not_class b a t (class_is a t e) other

-- the word of a class passes no test for another
pub word_is_not : (c k : Class) → is_fixed k ≡ true → sameb the_type c k ≡ false → is c (Some (word_of k)) ≡ false
word_is_not c k fixed other = not_class c k (Some (word_of k)) (class_at_word k fixed) other

-- what stands for a class stands for the only word of that class
pub class_reader : {A : Type 0} (of : Option Class → Option A) (class : A → Class) → ((o : Option Class) (a : A) → of o ≡ Some a → o ≡ Some (class a)) → ((a : A) → of (Some (class a)) ≡ Some a)
    → ((a : A) → is_fixed (class a) ≡ true) → Reader (λ t. of (class_at t)) always (λ a. word_of (class a))
class_reader of class from back fixed = record {
  says = λ t a e. ((knows (class a) (fixed a)).says t (when_class (class a) t (from (class_at t) a e)), refl);
  yes = λ a good. ap of (class_at_word (class a) (fixed a)) ∙ back a;
}

-- ---- tokens with bytes

bytes_of : (b : Bool) (t : Option Word) (bytes : List ℕ) → bytes_where b t ≡ Some bytes → (b ≡ true) × (bytes_at t ≡ bytes)
bytes_of true t bytes e = (refl, cc)
bytes_of false t bytes e = absurd (cc)

pub name_class : (b : List ℕ) → is_name b ≡ true → is classes.Name (Some (a_word b)) ≡ true
unfolding is_class
name_class b e = e

name_back : (t : Option Word) (b : List ℕ) → is classes.Name t ≡ true → bytes_at t ≡ b → (t ≡ Some (a_word b)) × (is_name b ≡ true)
unfolding is_class
name_back None b e same = absurd (cc)
name_back (Some w) b e same =
    let whole = name_is w (class_when classes.Name w e) in
    let word : Some w ≡ Some (a_word b) = ap Some whole ∙ ap (λ b. Some (a_word b)) same in
    (word, subst (λ t. is classes.Name t ≡ true) word e)

pub name_reader : Reader (bytes_if classes.Name) is_name a_word
name_reader = record {
  says = λ t b e. let h = bytes_of (is classes.Name t) t b e in name_back t b h.0 h.1;
  yes = λ b good. ap (λ c. bytes_where c (Some (a_word b))) (name_class b good);
}

pub number_class : (b : List ℕ) → is classes.Number (Some (number_word b)) ≡ true
unfolding is_class
number_class b = true_same the_type classes.Number classes.Number refl

number_back : (t : Option Word) (b : List ℕ) → is classes.Number t ≡ true → bytes_at t ≡ b → t ≡ Some (number_word b)
unfolding is_class
number_back None b e same = absurd (cc)
number_back (Some w) b e same = ap Some (number_is w (class_when classes.Number w e)) ∙ ap (λ b. Some (number_word b)) same

pub number_reader : Reader (bytes_if classes.Number) always number_word
number_reader = record {
  says = λ t b e. let h = bytes_of (is classes.Number t) t b e in (number_back t b h.0 h.1, refl);
  yes = λ b good. ap (λ c. bytes_where c (Some (number_word b))) (number_class b);
}

pub text_class : (b : List ℕ) → is classes.Text (Some (text_word b)) ≡ true
unfolding is_class
text_class b = true_same the_type classes.Text classes.Text refl

text_back : (t : Option Word) (b : List ℕ) → is classes.Text t ≡ true → bytes_at t ≡ b → t ≡ Some (text_word b)
unfolding is_class
text_back None b e same = absurd (cc)
text_back (Some w) b e same = ap Some (text_is w (class_when classes.Text w e)) ∙ ap (λ b. Some (text_word b)) same

pub text_reader : Reader (bytes_if classes.Text) always text_word
text_reader = record {
  says = λ t b e. let h = bytes_of (is classes.Text t) t b e in (text_back t b h.0 h.1, refl);
  yes = λ b good. ap (λ c. bytes_where c (Some (text_word b))) (text_class b);
}

pub character_class : (b : List ℕ) → is classes.Character (Some (character_word b)) ≡ true
unfolding is_class
character_class b = true_same the_type classes.Character classes.Character refl

character_back : (t : Option Word) (b : List ℕ) → is classes.Character t ≡ true → bytes_at t ≡ b → t ≡ Some (character_word b)
unfolding is_class
character_back None b e same = absurd (cc)
character_back (Some w) b e same = ap Some (character_is w (class_when classes.Character w e)) ∙ ap (λ b. Some (character_word b)) same

pub character_reader : Reader (bytes_if classes.Character) always character_word
character_reader = record {
  says = λ t b e. let h = bytes_of (is classes.Character t) t b e in (character_back t b h.0 h.1, refl);
  yes = λ b good. ap (λ c. bytes_where c (Some (character_word b))) (character_class b);
}

pub define_class : (b : List ℕ) → is classes.Define (Some (define_word b)) ≡ true
unfolding is_class
define_class b = true_same the_type classes.Define classes.Define refl

define_back : (t : Option Word) (b : List ℕ) → is classes.Define t ≡ true → bytes_at t ≡ b → t ≡ Some (define_word b)
unfolding is_class
define_back None b e same = absurd (cc)
define_back (Some w) b e same = ap Some (define_is w (class_when classes.Define w e)) ∙ ap (λ b. Some (define_word b)) same

pub define_reader : Reader (bytes_if classes.Define) always define_word
define_reader = record {
  says = λ t b e. let h = bytes_of (is classes.Define t) t b e in (define_back t b h.0 h.1, refl);
  yes = λ b good. ap (λ c. bytes_where c (Some (define_word b))) (define_class b);
}
