-- One of two kinds, told apart by the first token.
use Rattle.std.proofs.Common.{◌≡◌, ℕ, ◌+◌, length, subst, append_assoc, ◌||◌, Bool, true, false, ◌⊎◌, List, [], ◌++◌, Option, if◌then◌else◌, refl, sym, ap, ◌∙◌, inl, inr}
use Rattle.dpi_grammar.specs.Told.{Told}
use Rattle.dpi_grammar.specs.Parser.{State, Parser, first}
use Rattle.dpi_grammar.proofs.Lists.{true_not_false, words_append, right_split}
use Rattle.dpi_grammar.proofs.Exact.{Kind, words, Is, Exact, pair}
use Rattle.dpi_grammar.proofs.Forms.{Form, Only, formed, form_viable}
use Rattle.dpi_grammar.proofs.Rules.{Rule}
use Rattle.dpi_grammar.proofs.Many.{Starts, Apart, or_both}

pub or_first : (a b : Bool) → a ≡ true → (a || b) ≡ true
or_first true b e = refl
or_first false b e = let bad : false ≡ true = e in absurd (cc)

pub or_second : (a b : Bool) → b ≡ true → (a || b) ≡ true
or_second true b e = refl
or_second false b e = e

either_by : (a b : Bool) {P : Type 0} → (a || b) ≡ true → (a ≡ true → P) → (b ≡ true → P) → P
either_by true b e p q = p refl
either_by false b e p q = q e

-- no token that passes one of two tests passes the third
pub apart_either : {T : Type 0} (one other test : Option T → Bool) → Apart one test → Apart other test → Apart (λ t. one t || other t) test
apart_either one other test p q t e = either_by (one t) (other t) e (p t) (q t)

-- no token that passes the first test passes one of two others
pub apart_both : {T : Type 0} (begins one other : Option T → Bool) → Apart begins one → Apart begins other → Apart begins (λ t. one t || other t)
apart_both begins one other p q t e = or_both (one t) (other t) (p t e) (q t e)

-- a pair begins as its first part
pub pair_starts : {T X Y : Type 0} (begins : Option T → Bool) (J : Kind T X) (K : X → Kind T Y) → Starts begins J → Starts begins (pair J K)
pair_starts begins J K starts n p r h =
    let s = right_split n (n + length (words J p.0)) (J.told p.0).atoms ((K p.0).told p.1).atoms refl h in
    subst (λ w. begins (first w) ≡ true) (sym (ap (λ w. w ++ r) (words_append (J.told p.0).atoms ((K p.0).told p.1).atoms) ∙ append_assoc (words J p.0) (words (K p.0) p.1) r))
    (starts n p.0 (words (K p.0) p.1 ++ r) s.0)

-- no tree begins with such a token
abbrev pub Misses : {T X : Type 0} → (Option T → Bool) → Kind T X → Type 0
Misses is K = (n : ℕ) (x : _) (r : List _) → Is K n x → K.grabs x (first r) ≡ false → is (first (words K x ++ r)) ≡ false

-- trees that begin with tokens of another test, which no token passes with this one
pub misses_by : {T X : Type 0} (begins is : Option T → Bool) (K : Kind T X) → Starts begins K → Apart begins is → Misses is K
misses_by begins is K starts apart n x r h g = apart _ (starts n x r h)

abbrev pub sum_told : {T X Y : Type 0} → Kind T X → Kind T Y → X ⊎ Y → Told T
sum_told J K (inl x) = J.told x
sum_told J K (inr y) = K.told y

abbrev pub sum_grabs : {T X Y : Type 0} → Kind T X → Kind T Y → X ⊎ Y → Option T → Bool
sum_grabs J K (inl x) = J.grabs x
sum_grabs J K (inr y) = K.grabs y

-- a tree of the one kind or of the other
abbrev pub sum : {T X Y : Type 0} → Kind T X → Kind T Y → Kind T (X ⊎ Y)
sum J K = record { told = sum_told J K; grabs = sum_grabs J K }

pub sum_misses : {T X Y : Type 0} (is : Option T → Bool) (J : Kind T X) (K : Kind T Y) → Misses is J → Misses is K → Misses is (sum J K)
sum_misses is J K j k n (inl x) r h g = j n x r h g
sum_misses is J K j k n (inr y) r h g = k n y r h g

module _ {T X Y : Type 0} (is : Option T → Bool) (J : Kind T X) (K : Kind T Y) (starts : Starts is J) (misses : Misses is K) where
  left_form : Form J (sum J K) inl
  left_form = record { tells = λ n x h. refl; levels_are = λ n x h. refl; is = λ n x h. h; grabs = λ n x t h. refl }

  right_form : Form K (sum J K) inr
  right_form = record { tells = λ n x h. refl; levels_are = λ n x h. refl; is = λ n x h. h; grabs = λ n x t h. refl }

  left_only : (t : Option T) → is t ≡ true → Only J (sum J K) inl t
  left_only t e n (inl x) r h g same = (x, h, refl)
  left_only t e n (inr y) r h g same = true_not_false (is t) e (ap is (sym same) ∙ misses n y r h g)

  right_only : (t : Option T) → is t ≡ false → Only K (sum J K) inr t
  right_only t e n (inl x) r h g same = true_not_false (is t) (ap is (sym same) ∙ starts n x r h) e
  right_only t e n (inr y) r h g same = (y, h, refl)

  choice_by : {Z : Type 0} (make : X ⊎ Y → Z) (d : ℕ) (s : State T) (p q : Parser T Z) (b : Bool) → is (first s.rest) ≡ b
      → (b ≡ true → Exact J (λ x. make (inl x)) d s (p s)) → (b ≡ false → Exact K (λ y. make (inr y)) d s (q s)) → Exact (sum J K) make d s (if b then p s else q s)
  choice_by make d s p q true e j k = formed J (sum J K) inl left_form make d s (p s) (left_only _ e) (j refl)
  choice_by make d s p q false e j k = formed K (sum J K) inr right_form make d s (q s) (right_only _ e) (k refl)

  sum_keeps : (before : Option T → Bool) → ((n : ℕ) (x : X) (r : List T) → Is J n x → J.grabs x (first r) ≡ false → before (first (words J x ++ r)) ≡ false)
      → ((n : ℕ) (y : Y) (r : List T) → Is K n y → K.grabs y (first r) ≡ false → before (first (words K y ++ r)) ≡ false)
      → (n : ℕ) (z : X ⊎ Y) (r : List T) → Is (sum J K) n z → (sum J K).grabs z (first r) ≡ false → before (first (words (sum J K) z ++ r)) ≡ false
  sum_keeps before j k n (inl x) r h g = j n x r h g
  sum_keeps before j k n (inr y) r h g = k n y r h g

  -- what passes the test begins the one, and what doesn't the other
  pub chosen : {Z : Type 0} {live : Type 0} {before : Option T → Bool} {d : ℕ} {p q : Parser T Z} (make : X ⊎ Y → Z)
      → Rule live before J (λ x. make (inl x)) d p → Rule live before K (λ y. make (inr y)) d q
      → Rule live before (sum J K) make d (λ s. if is (first s.rest) then p s else q s)
  chosen {before = before} {d = d} {p = p} {q = q} make j k = record {
    exact = λ l s b. choice_by make d s p q (is (first s.rest)) refl (λ _. j.exact l s b) (λ _. k.exact l s b);
    closes = λ n. form_viable J (sum J K) inl left_form d n [] (j.closes n);
    keeps = sum_keeps before j.keeps k.keeps;
  }
