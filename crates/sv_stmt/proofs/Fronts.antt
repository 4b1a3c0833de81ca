-- Kinds of trees that begin with a word of their own, and what tells them apart.
use Rattle.std.proofs.Common.{◌≡◌, ℕ, Bool, true, false, ◌||◌, ◌++◌, Option, Some, refl, sym, ap, ◌∙◌, subst, inl, inr}
use Rattle.dpi_grammar.specs.Told.{Told, words_in, IsRight}
use Rattle.dpi_grammar.specs.Parser.{and_then, first, expect}
use Rattle.dpi_grammar.proofs.Exact.{Kind, words, Is, Exact, pair}
use Rattle.dpi_grammar.proofs.Rules.{Rule, never, place, behind, numbered, token_then}
use Rattle.dpi_grammar.proofs.Many.{Starts, Apart}
use Rattle.dpi_grammar.proofs.Choices.{sum, Off, starts_off}
use Rattle.dpi_grammar.proofs.Firsts.{apart_back, in_left, in_right}
use Rattle.dpi_lex.specs.Words.{Word}
use Rattle.sv_tree.specs.declared.class.Class.{Class}
use Rattle.sv_tree.specs.Classes.{word_of, class_at, is_class, is}
use Rattle.sv_tree.proofs.ClassLemmas.{is_fixed, knows}
use Rattle.sv_cursor.specs.Reading.{Parses}
use Rattle.sv_cursor.proofs.Tokens.{apart_by}

-- ---- tests of classes

-- the test of a class for the next token
abbrev pub by_class : (Option Class → Bool) → Option Word → Bool
by_class f t = f (class_at t)

-- each tree begins with a token of such a class
abbrev pub Fronts : {X : Type 0} → (Option Class → Bool) → Kind Word X → Type 0
Fronts f K = Starts (by_class f) K

-- no tree begins with a token of this class
pub off_by : {X : Type 0} (c : Class) (f : Option Class → Bool) (K : Kind Word X) → Fronts f K → f (Some c) ≡ false → Off (is c) K
off_by c f K fronts other = starts_off (by_class f) (is c) K fronts (apart_back (is c) (by_class f) (apart_by c f other))

pub sum_fronts : {X Y : Type 0} (f g : Option Class → Bool) (J : Kind Word X) (K : Kind Word Y) → Fronts f J → Fronts g K → Fronts (λ c. f c || g c) (sum J K)
sum_fronts f g J K j k n (inl x) r h = in_left _ _ (j n x r h)
sum_fronts f g J K j k n (inr y) r h = in_right _ _ (k n y r h)

-- ---- a word with its number, and the rest

abbrev pub keyword : {X : Type 0} → Class → Kind Word X → Kind Word (ℕ × X)
keyword c S = pair (place never) (λ _. behind (word_of c) S)

pub keyword_front : {X : Type 0} (c : Class) (S : Kind Word X) → is_fixed c ≡ true → Fronts (is_class c) (keyword c S)
keyword_front c S fixed n x r h = (knows c fixed).yes

pub keyword_rule : {X Z : Type 0} {live : Type 0} {S : Kind Word X} {d : ℕ} (c : Class) (make : ℕ → X → Z) (q : ℕ → Parses Z) → is_fixed c ≡ true
    → ((k : ℕ) → Rule live never S (make k) d (q k)) → Rule live never (keyword c S) (λ p. make p.0 p.1) d (λ s. and_then (expect (is c) s) (λ _. q s.place))
keyword_rule {S = S} c make q fixed k =
    numbered make (λ n s. and_then (expect (is c) s) (λ _. q n)) (λ n. token_then (is c) (word_of c) (knows c fixed) refl (k n))

-- ---- parsers of a number of levels

-- Where it is live, the number is that of the levels left.
pub at_depth : {X Z : Type 0} {live : Type 0} {before : Option Word → Bool} {K : Kind Word X} {make : X → Z} {m : ℕ} (p : ℕ → Parses Z) (d : ℕ) → (live → d ≡ m)
    → ((d : ℕ) → Rule live before K make d (p d)) → Rule live before K make m (p d)
at_depth {K = K} {make = make} {m = m} p d same k = record {
  exact = λ l s b. subst (λ d. Exact K make m s (p d s)) (sym (same l)) ((k m).exact l s b);
  closes = (k m).closes;
  keeps = (k m).keeps;
}

-- ---- what goes on with no word of a class

pub at_word : (c : Class) → is_fixed c ≡ true → (grabs : Option Word → Bool) → Apart (is c) grabs → grabs (Some (word_of c)) ≡ false
at_word c fixed grabs apart = apart _ (knows c fixed).yes

pub word_apart : (c : Class) → is_fixed c ≡ true → (grabs : Option Word → Bool) → grabs (Some (word_of c)) ≡ false → Apart (is c) grabs
word_apart c fixed grabs free t e = ap grabs ((knows c fixed).says t e) ∙ free

-- no token of a class that the test excludes
pub apart_class : (f : Option Class → Bool) (c : Class) → f (Some c) ≡ false → Apart (by_class f) (is c)
apart_class f c other = apart_back (is c) (by_class f) (apart_by c f other)

pub excluded_by : (c : Class) (f : Option Class → Bool) → f (Some c) ≡ false → (t : Option Word) → f (class_at t) ≡ true → is c t ≡ false
excluded_by c f other t e = apart_class f c other t e

-- trees that tell the same begin alike
pub starts_as : {X Z : Type 0} (begins : Option Word → Bool) (K : Kind Word Z) (S : Kind Word X) (make : X → Z) → ((x : X) → K.told (make x) ≡ S.told x) → ((z : Z) → (x : X) × (make x ≡ z)) → Starts begins S → Starts begins K
starts_as begins K S make told all starts n z r h =
    let x = all z in
    subst (λ z. Is K n z → begins (first (words K z ++ r)) ≡ true) x.1
    (λ h. ap (λ (a : Told Word). begins (first (words_in a.atoms ++ r))) (told x.0) ∙ starts n x.0 r (subst (λ (a : Told Word). IsRight n a.atoms) (told x.0) h)) h
