-- A class is known by its word, and a word by its class.
use Rattle.std.proofs.Common.{◌≡◌, ℕ, Bool, true, false, List, [], ◌∷◌, ◌&&◌, cond, Option, Some, None, unwrap_or, refl, sym, ap, ◌∙◌, subst}
use Rattle.std.specs.Prelude.{bytes_eq}
use Rattle.std.specs.List.{find, list_all}
use Rattle.std.proofs.lemmas.Slice.Eq.{bytes_eq-Decides}
use denote.Enum.Bare.{sameb, same_true, true_same}
use Rattle.dpi_grammar.proofs.Lists.{true_not_false}
use Rattle.dpi_grammar.proofs.Rules.{Knows}
use Rattle.dpi_lex.specs.Words.{Word}
use Rattle.dpi_lex.specs.declared.token.Kind.{Kind}
use Rattle.dpi_lex.specs.declared.token.Kind.TheVariants as kinds
use Rattle.c_tree.specs.contracts.class.Class.{the_type}
use Rattle.c_tree.specs.declared.class.Class.{Class}
use Rattle.c_tree.specs.declared.class.Class.TheVariants as classes
use Rattle.c_tree.specs.declared.class.TheConstants.{WORDS, SIGNS}
use Rattle.c_tree.specs.Classes.{a_word, a_sign, word_of, spelling, spelled, class_by, class_of, class_at, is_class, is}

-- its tokens are all spelled alike
abbrev pub is_fixed : Class → Bool
is_fixed classes.Name = false
is_fixed classes.Number = false
is_fixed classes.Character = false
is_fixed classes.Text = false
is_fixed classes.Define = false
is_fixed classes.Other = false
is_fixed _ = true

abbrev is_word : Kind → Bool
is_word kinds.Word = true
is_word _ = false

abbrev is_sign : Kind → Bool
is_sign kinds.Sign = true
is_sign _ = false

and_left : (a b : Bool) → (a && b) ≡ true → a ≡ true
and_left true b h = refl
and_left false b h = h

and_right : (a b : Bool) → (a && b) ≡ true → b ≡ true
and_right true b h = h
and_right false b h = let e : false ≡ true = h in absurd (cc)

found_by : {X : Type 0} (p q : X → Bool) (y x : X) (ys : List X) (a : Bool) → p y ≡ a → (q y && list_all q ys) ≡ true → cond a (Some y) (find p ys) ≡ Some x
    → (list_all q ys ≡ true → find p ys ≡ Some x → (p x ≡ true) × (q x ≡ true)) → (p x ≡ true) × (q x ≡ true)
found_by p q y x ys true e all at next = let same : y ≡ x = cc in (subst (λ z. p z ≡ true) same e, subst (λ z. q z ≡ true) same (and_left (q y) (list_all q ys) all))
found_by p q y x ys false e all at next = next (and_right (q y) (list_all q ys) all) at

-- what is found passes the test, and what all of the list pass
found : {X : Type 0} (p q : X → Bool) (xs : List X) (x : X) → list_all q xs ≡ true → find p xs ≡ Some x → (p x ≡ true) × (q x ≡ true)
found p q [] x all e = absurd (cc)
found p q (y ∷ ys) x all e = found_by p q y x ys (p y) refl all e (found p q ys x)

same_kind_word : (k : Kind) → is_word k ≡ true → k ≡ kinds.Word
same_kind_word kinds.Word e = refl
same_kind_word _ e = cc

same_kind_sign : (k : Kind) → is_sign k ≡ true → k ≡ kinds.Sign
same_kind_sign kinds.Sign e = refl
same_kind_sign _ e = cc

bytes_same : (a b : List ℕ) → bytes_eq a b ≡ true → a ≡ b
bytes_same a b e = (bytes_eq-Decides a b).0 e

all_words : list_all (λ c. is_word (word_of c).kind) WORDS ≡ true
all_words = refl

all_signs : list_all (λ c. is_sign (word_of c).kind) SIGNS ≡ true
all_signs = refl

-- ---- from a class to its word

word_by : (w : Word) (b : List ℕ) (k : Kind) → w.kind ≡ k → w.bytes ≡ b → record { kind = k; bytes = b } ≡ w
word_by w b k e f = ap (λ k. let w2 : Word = record { kind = k; bytes = b } in w2) (sym e) ∙ ap (λ b. let w2 : Word = record { kind = w.kind; bytes = b } in w2) (sym f)

says_word : (b : List ℕ) (c : Class) → is_fixed c ≡ true → (o : Option Class) → spelled WORDS b ≡ o → unwrap_or o classes.Name ≡ c → a_word b ≡ word_of c
says_word b c fixed None e same = true_not_false (is_fixed c) fixed (ap is_fixed (sym same))
says_word b c fixed (Some k) e same =
    let h = found (λ c. bytes_eq (spelling c) b) (λ c. is_word (word_of c).kind) WORDS k all_words e in
    let kind = same_kind_word (word_of k).kind h.1 in
    let bytes = bytes_same (spelling k) b h.0 in
    word_by (word_of k) b kinds.Word kind bytes ∙ ap word_of same

says_sign : (b : List ℕ) (c : Class) → is_fixed c ≡ true → (o : Option Class) → spelled SIGNS b ≡ o → unwrap_or o classes.Other ≡ c → a_sign b ≡ word_of c
says_sign b c fixed None e same = true_not_false (is_fixed c) fixed (ap is_fixed (sym same))
says_sign b c fixed (Some k) e same =
    let h = found (λ c. bytes_eq (spelling c) b) (λ c. is_sign (word_of c).kind) SIGNS k all_signs e in
    let kind = same_kind_sign (word_of k).kind h.1 in
    let bytes = bytes_same (spelling k) b h.0 in
    word_by (word_of k) b kinds.Sign kind bytes ∙ ap word_of same

says_by : (k : Kind) (b : List ℕ) (c : Class) → is_fixed c ≡ true → class_by k b ≡ c → record { kind = k; bytes = b } ≡ word_of c
says_by kinds.Word b c fixed same = says_word b c fixed (spelled WORDS b) refl same
says_by kinds.Sign b c fixed same = says_sign b c fixed (spelled SIGNS b) refl same
says_by kinds.Number b c fixed same = true_not_false (is_fixed c) fixed (ap is_fixed (sym same))
says_by kinds.Text b c fixed same = true_not_false (is_fixed c) fixed (ap is_fixed (sym same))
says_by kinds.Character b c fixed same = true_not_false (is_fixed c) fixed (ap is_fixed (sym same))
says_by kinds.Define b c fixed same = true_not_false (is_fixed c) fixed (ap is_fixed (sym same))

pub says : (w : Word) (c : Class) → is_fixed c ≡ true → class_of w ≡ c → w ≡ word_of c
says w c fixed same = says_by w.kind w.bytes c fixed same

-- ---- from a word to its class

pub class_of_word : (c : Class) → is_fixed c ≡ true → class_of (word_of c) ≡ c
class_of_word classes.Void e = refl
class_of_word classes.Char e = refl
class_of_word classes.Short e = refl
class_of_word classes.Int e = refl
class_of_word classes.Long e = refl
class_of_word classes.Signed e = refl
class_of_word classes.Unsigned e = refl
class_of_word classes.Const e = refl
class_of_word classes.SvBit e = refl
class_of_word classes.SvLogic e = refl
class_of_word classes.SvBitVecVal e = refl
class_of_word classes.SvLogicVecVal e = refl
class_of_word classes.SvOpenArrayHandle e = refl
class_of_word classes.SvScope e = refl
class_of_word classes.Int8 e = refl
class_of_word classes.Uint8 e = refl
class_of_word classes.Int16 e = refl
class_of_word classes.Uint16 e = refl
class_of_word classes.Int32 e = refl
class_of_word classes.Uint32 e = refl
class_of_word classes.Int64 e = refl
class_of_word classes.Uint64 e = refl
class_of_word classes.Static e = refl
class_of_word classes.Extern e = refl
class_of_word classes.If e = refl
class_of_word classes.Else e = refl
class_of_word classes.While e = refl
class_of_word classes.Do e = refl
class_of_word classes.For e = refl
class_of_word classes.Return e = refl
class_of_word classes.Break e = refl
class_of_word classes.Continue e = refl
class_of_word classes.Null e = refl
class_of_word classes.OpenParen e = refl
class_of_word classes.CloseParen e = refl
class_of_word classes.OpenBracket e = refl
class_of_word classes.CloseBracket e = refl
class_of_word classes.OpenBrace e = refl
class_of_word classes.CloseBrace e = refl
class_of_word classes.Semicolon e = refl
class_of_word classes.Comma e = refl
class_of_word classes.Colon e = refl
class_of_word classes.Question e = refl
class_of_word classes.Dot e = refl
class_of_word classes.Arrow e = refl
class_of_word classes.Assign e = refl
class_of_word classes.AddAssign e = refl
class_of_word classes.SubtractAssign e = refl
class_of_word classes.MultiplyAssign e = refl
class_of_word classes.DivideAssign e = refl
class_of_word classes.RemainderAssign e = refl
class_of_word classes.AndAssign e = refl
class_of_word classes.OrAssign e = refl
class_of_word classes.XorAssign e = refl
class_of_word classes.ShiftLeftAssign e = refl
class_of_word classes.ShiftRightAssign e = refl
class_of_word classes.Increment e = refl
class_of_word classes.Decrement e = refl
class_of_word classes.Plus e = refl
class_of_word classes.Minus e = refl
class_of_word classes.Star e = refl
class_of_word classes.Slash e = refl
class_of_word classes.Percent e = refl
class_of_word classes.Not e = refl
class_of_word classes.Tilde e = refl
class_of_word classes.And e = refl
class_of_word classes.Or e = refl
class_of_word classes.Xor e = refl
class_of_word classes.ShiftLeft e = refl
class_of_word classes.ShiftRight e = refl
class_of_word classes.Less e = refl
class_of_word classes.LessOrEqual e = refl
class_of_word classes.Greater e = refl
class_of_word classes.GreaterOrEqual e = refl
class_of_word classes.Equal e = refl
class_of_word classes.NotEqual e = refl
class_of_word classes.AndAnd e = refl
class_of_word classes.OrOr e = refl
class_of_word _ e = cc

-- ---- the test for a class

is_says : (c : Class) → is_fixed c ≡ true → (t : Option Word) → is c t ≡ true → t ≡ Some (word_of c)
unfolding is_class
is_says c fixed None e = absurd (cc)
is_says c fixed (Some w) e = ap Some (says w c fixed (sym (same_true the_type tt c (class_of w) e)))

is_yes : (c : Class) → is_fixed c ≡ true → is c (Some (word_of c)) ≡ true
unfolding is_class
is_yes c fixed = ap (λ k. sameb the_type c k) (class_of_word c fixed) ∙ true_same the_type c c refl

-- a test for a class knows its word
pub knows : (c : Class) → is_fixed c ≡ true → Knows (is c) (word_of c)
knows c fixed = record { says = is_says c fixed; yes = is_yes c fixed }

-- ---- the classes of tokens that vary

all_fixed_words : list_all is_fixed WORDS ≡ true
all_fixed_words = refl

all_fixed_signs : list_all is_fixed SIGNS ≡ true
all_fixed_signs = refl

words_fixed : (b : List ℕ) (o : Option Class) (usual c : Class) → spelled WORDS b ≡ o → is_fixed c ≡ false → unwrap_or o usual ≡ c → usual ≡ c
words_fixed b None usual c e free same = same
words_fixed b (Some k) usual c e free same =
    let h = found (λ c. bytes_eq (spelling c) b) is_fixed WORDS k all_fixed_words e in
    true_not_false (is_fixed c) (ap is_fixed (sym same) ∙ h.1) free

signs_fixed : (b : List ℕ) (o : Option Class) (usual c : Class) → spelled SIGNS b ≡ o → is_fixed c ≡ false → unwrap_or o usual ≡ c → usual ≡ c
signs_fixed b None usual c e free same = same
signs_fixed b (Some k) usual c e free same =
    let h = found (λ c. bytes_eq (spelling c) b) is_fixed SIGNS k all_fixed_signs e in
    true_not_false (is_fixed c) (ap is_fixed (sym same) ∙ h.1) free

name_by : (k : Kind) (b : List ℕ) → class_by k b ≡ classes.Name → k ≡ kinds.Word
name_by kinds.Word b e = refl
name_by kinds.Sign b e = let f : classes.Other ≡ classes.Name = signs_fixed b (spelled SIGNS b) classes.Other classes.Name refl refl e in cc
name_by kinds.Number b e = cc
name_by kinds.Text b e = cc
name_by kinds.Character b e = cc
name_by kinds.Define b e = cc

number_by : (k : Kind) (b : List ℕ) → class_by k b ≡ classes.Number → k ≡ kinds.Number
number_by kinds.Word b e = let f : classes.Name ≡ classes.Number = words_fixed b (spelled WORDS b) classes.Name classes.Number refl refl e in cc
number_by kinds.Sign b e = let f : classes.Other ≡ classes.Number = signs_fixed b (spelled SIGNS b) classes.Other classes.Number refl refl e in cc
number_by kinds.Number b e = refl
number_by kinds.Text b e = cc
number_by kinds.Character b e = cc
number_by kinds.Define b e = cc

character_by : (k : Kind) (b : List ℕ) → class_by k b ≡ classes.Character → k ≡ kinds.Character
character_by kinds.Word b e = let f : classes.Name ≡ classes.Character = words_fixed b (spelled WORDS b) classes.Name classes.Character refl refl e in cc
character_by kinds.Sign b e = let f : classes.Other ≡ classes.Character = signs_fixed b (spelled SIGNS b) classes.Other classes.Character refl refl e in cc
character_by kinds.Number b e = cc
character_by kinds.Text b e = cc
character_by kinds.Character b e = refl
character_by kinds.Define b e = cc

text_by : (k : Kind) (b : List ℕ) → class_by k b ≡ classes.Text → k ≡ kinds.Text
text_by kinds.Word b e = let f : classes.Name ≡ classes.Text = words_fixed b (spelled WORDS b) classes.Name classes.Text refl refl e in cc
text_by kinds.Sign b e = let f : classes.Other ≡ classes.Text = signs_fixed b (spelled SIGNS b) classes.Other classes.Text refl refl e in cc
text_by kinds.Number b e = cc
text_by kinds.Text b e = refl
text_by kinds.Character b e = cc
text_by kinds.Define b e = cc

define_by : (k : Kind) (b : List ℕ) → class_by k b ≡ classes.Define → k ≡ kinds.Define
define_by kinds.Word b e = let f : classes.Name ≡ classes.Define = words_fixed b (spelled WORDS b) classes.Name classes.Define refl refl e in cc
define_by kinds.Sign b e = let f : classes.Other ≡ classes.Define = signs_fixed b (spelled SIGNS b) classes.Other classes.Define refl refl e in cc
define_by kinds.Number b e = cc
define_by kinds.Text b e = cc
define_by kinds.Character b e = cc
define_by kinds.Define b e = refl

kind_word : (w : Word) (k : Kind) → w.kind ≡ k → w ≡ record { kind = k; bytes = w.bytes }
kind_word w k e = ap (λ k. let w2 : Word = record { kind = k; bytes = w.bytes } in w2) e

pub name_is : (w : Word) → class_of w ≡ classes.Name → w ≡ record { kind = kinds.Word; bytes = w.bytes }
name_is w e = kind_word w kinds.Word (name_by w.kind w.bytes e)

pub number_is : (w : Word) → class_of w ≡ classes.Number → w ≡ record { kind = kinds.Number; bytes = w.bytes }
number_is w e = kind_word w kinds.Number (number_by w.kind w.bytes e)

pub character_is : (w : Word) → class_of w ≡ classes.Character → w ≡ record { kind = kinds.Character; bytes = w.bytes }
character_is w e = kind_word w kinds.Character (character_by w.kind w.bytes e)

pub text_is : (w : Word) → class_of w ≡ classes.Text → w ≡ record { kind = kinds.Text; bytes = w.bytes }
text_is w e = kind_word w kinds.Text (text_by w.kind w.bytes e)

pub define_is : (w : Word) → class_of w ≡ classes.Define → w ≡ record { kind = kinds.Define; bytes = w.bytes }
define_is w e = kind_word w kinds.Define (define_by w.kind w.bytes e)

-- a test for a class is the class
pub class_when : (c : Class) (w : Word) → is c (Some w) ≡ true → class_of w ≡ c
unfolding is_class
class_when c w e = sym (same_true the_type tt c (class_of w) e)

pub when_class : (c : Class) (t : Option Word) → class_at t ≡ Some c → is c t ≡ true
unfolding is_class
when_class c t e = ap (is_class c) e ∙ true_same the_type c c refl

pub not_class : (c k : Class) (t : Option Word) → class_at t ≡ Some k → sameb the_type c k ≡ false → is c t ≡ false
unfolding is_class
not_class c k t e other = ap (is_class c) e ∙ other
