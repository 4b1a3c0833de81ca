-- Parts that open a level where they begin, and else another part; and rules for parsers that answer the same.
use Rattle.std.proofs.Common.{◌≡◌, ℕ, Bool, true, false, ◌||◌, ◌⊎◌, List, [], ◌++◌, Option, Some, None, Err, if◌then◌else◌, refl, sym, ap, ◌∙◌, subst, inl, inr}
use Rattle.dpi_grammar.specs.declared.stop.Stop.TheVariants.{Syntax}
use Rattle.dpi_grammar.specs.Parser.{State, Parser, and_then, first, level}
use Rattle.dpi_grammar.specs.Choices.{choose_by}
use Rattle.dpi_grammar.proofs.Lists.{true_not_false}
use Rattle.dpi_grammar.proofs.Exact.{Kind, words, Is, Viable, Exact}
use Rattle.dpi_grammar.proofs.Forms.{formed, form_viable, none_begins, within}
use Rattle.dpi_grammar.proofs.Rules.{Rule, Inside, one_deeper}
use Rattle.dpi_grammar.proofs.Many.{Starts, or_left, or_right, or_both}
use Rattle.dpi_grammar.proofs.Choices.{either, sum, Off, choice, left_form, right_form, left_only, right_only, Enters}

-- ---- rules

-- a rule for a parser that answers the same
pub same_rule : {T X Z : Type 0} {live : Type 0} {before : Option T → Bool} {K : Kind T X} {make : X → Z} {d : ℕ} {p : Parser T Z} (q : Parser T Z) → ((s : State T) → p s ≡ q s)
    → Rule live before K make d p → Rule live before K make d q
same_rule {K = K} {make = make} {d = d} q e k = record {
  exact = λ l s b. subst (λ o. Exact K make d s o) (e s) (k.exact l s b);
  closes = k.closes;
  keeps = k.keeps;
}

-- a rule with a parser is one whether it is live or not
pub lively : {T X Z : Type 0} {live : Type 0} {before : Option T → Bool} {K : Kind T X} {make : X → Z} {d : ℕ} {p : Parser T Z}
    → Rule (Unit {0}) before K make d p → Rule live before K make d p
lively k = record { exact = λ l s b. k.exact tt s b; closes = k.closes; keeps = k.keeps }

-- a choice, written in two ways
pub choose_if : {T A : Type 0} (b : Bool) (p q : Parser T A) (s : State T) → choose_by b p q s ≡ (if b then p s else q s)
choose_if true p q s = refl
choose_if false p q s = refl

-- one of two kinds by the next token
pub if_rule : {T X Y Z : Type 0} {live : Type 0} {before : Option T → Bool} {J : Kind T X} {K : Kind T Y} {f : X → Z} {g : Y → Z} {d : ℕ} {p q : Parser T Z} (begins : Option T → Bool)
    → Starts begins J → Off begins K → Rule live before J f d p → Rule live before K g d q → Rule live before (sum J K) (either f g) d (λ s. if begins (first s.rest) then p s else q s)
if_rule {p = p} {q = q} begins starts off j k = same_rule _ (λ s. choose_if (begins (first s.rest)) p q s) (choice begins starts off j k)

-- ---- kinds without a tree

abbrev pub Empty : {T X : Type 0} → Kind T X → Type 0
Empty K = (n : ℕ) (x : _) → Is K n x → ⊥

module _ {T X Y : Type 0} (begins before : Option T → Bool) (J : Kind T X) (K : Kind T Y) where
  not_left : Starts begins J → Empty K → (s : State T) → begins (first s.rest) ≡ false → (n : ℕ) (z : X ⊎ Y) (r : List T) → Is (sum J K) n z → (sum J K).grabs z (first r) ≡ false → first (words (sum J K) z ++ r) ≡ first s.rest → ⊥
  not_left starts none s e n (inl x) r i g same = true_not_false (begins (first s.rest)) (ap begins (sym same) ∙ starts n x r i) e
  not_left starts none s e n (inr y) r i g same = none n y i

  if_left : {Z : Type 0} (f : X → Z) (g : Y → Z) (d : ℕ) (p : Parser T Z) → Starts begins J → Empty K → ((n : ℕ) → Viable J d n []) → (s : State T) (b : Bool) → begins (first s.rest) ≡ b → Exact J f d s (p s)
      → Exact (sum J K) (either f g) d s (if b then p s else Err (Syntax s.place))
  if_left f g d p starts none closes s true e left = formed J (sum J K) inl (left_form begins J K) (either f g) d s (p s) (left_only begins J K (λ n y r i h. absurd (none n y i)) _ e) left
  if_left f g d p starts none closes s false e left = none_begins (sum J K) (either f g) d s (form_viable J (sum J K) inl (left_form begins J K) d s.place [] (closes s.place)) (not_left starts none s e)

  left_keeps : Empty K → ((n : ℕ) (x : X) (r : List T) → Is J n x → J.grabs x (first r) ≡ false → before (first (words J x ++ r)) ≡ false)
      → (n : ℕ) (z : X ⊎ Y) (r : List T) → Is (sum J K) n z → (sum J K).grabs z (first r) ≡ false → before (first (words (sum J K) z ++ r)) ≡ false
  left_keeps none k n (inl x) r i g = k n x r i g
  left_keeps none k n (inr y) r i g = absurd (none n y i)

  -- the first kind, since the second one has no tree
  pub or_refuse : {Z : Type 0} {live : Type 0} {f : X → Z} {g : Y → Z} {d : ℕ} {p : Parser T Z} → Starts begins J → Empty K → Rule live before J f d p
      → Rule live before (sum J K) (either f g) d (λ s. if begins (first s.rest) then p s else Err (Syntax s.place))
  or_refuse {f = f} {g = g} {d = d} {p = p} starts none j = record {
    exact = λ l s b. if_left f g d p starts none j.closes s (begins (first s.rest)) refl (j.exact l s b);
    closes = λ n. form_viable J (sum J K) inl (left_form begins J K) d n [] (j.closes n);
    keeps = left_keeps none j.keeps;
  }

  not_right : Empty J → Off begins K → (s : State T) → begins (first s.rest) ≡ true → (n : ℕ) (z : X ⊎ Y) (r : List T) → Is (sum J K) n z → (sum J K).grabs z (first r) ≡ false → first (words (sum J K) z ++ r) ≡ first s.rest → ⊥
  not_right none off s e n (inl x) r i g same = none n x i
  not_right none off s e n (inr y) r i g same = true_not_false (begins (first s.rest)) e (ap begins (sym same) ∙ off n y r i g)

  if_right : {Z : Type 0} (f : X → Z) (g : Y → Z) (d : ℕ) (q : Parser T Z) → Empty J → Off begins K → ((n : ℕ) → Viable K d n []) → (s : State T) (b : Bool) → begins (first s.rest) ≡ b → Exact K g d s (q s)
      → Exact (sum J K) (either f g) d s (if b then Err (Syntax s.place) else q s)
  if_right f g d q none off closes s true e right = none_begins (sum J K) (either f g) d s (form_viable K (sum J K) inr (right_form begins J K) d s.place [] (closes s.place)) (not_right none off s e)
  if_right f g d q none off closes s false e right = formed K (sum J K) inr (right_form begins J K) (either f g) d s (q s) (right_only begins J K (λ n x r i. absurd (none n x i)) _ e) right

  right_keeps : Empty J → ((n : ℕ) (y : Y) (r : List T) → Is K n y → K.grabs y (first r) ≡ false → before (first (words K y ++ r)) ≡ false)
      → (n : ℕ) (z : X ⊎ Y) (r : List T) → Is (sum J K) n z → (sum J K).grabs z (first r) ≡ false → before (first (words (sum J K) z ++ r)) ≡ false
  right_keeps none k n (inl x) r i g = absurd (none n x i)
  right_keeps none k n (inr y) r i g = k n y r i g

  -- the second kind, since the first one has no tree
  pub refuse_or : {Z : Type 0} {live : Type 0} {f : X → Z} {g : Y → Z} {d : ℕ} {q : Parser T Z} → Empty J → Off begins K → Rule live before K g d q
      → Rule live before (sum J K) (either f g) d (λ s. if begins (first s.rest) then Err (Syntax s.place) else q s)
  refuse_or {f = f} {g = g} {d = d} {q = q} none off k = record {
    exact = λ l s b. if_right f g d q none off k.closes s (begins (first s.rest)) refl (k.exact l s b);
    closes = λ n. form_viable K (sum J K) inr (right_form begins J K) d n [] (k.closes n);
    keeps = right_keeps none k.keeps;
  }

-- ---- levels

-- what follows a part that opens a level
pub level_then : {T E A Z : Type 0} (inner : Option E) (body : E → Parser T A) (q : A → Parser T Z) (s : State T)
    → and_then (level inner body s) q ≡ level inner (λ e s. and_then (body e s) q) s
level_then None body q s = refl
level_then (Some e) body q s = refl

-- ---- a part that opens a level where it begins, and else one of the second kind, whose rule is for other tokens alone

module _ {T X Y Z E : Type 0} (Good : Type 0 → ℕ → E → Type 0) (is before : Option T → Bool) (t : T) (S : Kind T X) (f : X → Z) (body : E → Parser T Z) (enters : Enters Good is t S f body) (K : Kind T Y) (g : Y → Z) where
  enters_start : Starts is (within S)
  enters_start n x r h = ap is (enters.starts n x r h) ∙ enters.knows.yes

  -- what the second kind stands behind
  abbrev pub others : Option T → Bool
  others u = is u || before u

  by_token : (d : ℕ) (inner : Option E) → Inside Good d inner → (q : Parser T Z) → Off is K → ((n : ℕ) → Viable K 0 n []) → (s : State T) (b : Bool) → is (first s.rest) ≡ b → (b ≡ false → Exact K g d s (q s))
      → Exact (sum (within S) K) (either f g) d s (if b then level inner body s else q s)
  by_token d inner h q off closes s true e right =
      one_deeper Good S (sum (within S) K) inl (left_form is (within S) K) (either f g) body enters.rule enters.some enters.dead (λ n. form_viable K (sum (within S) K) inr (right_form is (within S) K) 0 n [] (closes n))
      d inner h s (λ n x r i. enters.starts n x r i ∙ sym (enters.knows.says _ e)) (left_only is (within S) K off _ e)
  by_token d inner h q off closes s false e right = formed K (sum (within S) K) inr (right_form is (within S) K) (either f g) d s (q s) (right_only is (within S) K enters_start _ e) (right refl)

  keeps_by : before (Some t) ≡ false → ((n : ℕ) (y : Y) (r : List T) → Is K n y → K.grabs y (first r) ≡ false → others (first (words K y ++ r)) ≡ false)
      → (n : ℕ) (z : X ⊎ Y) (r : List T) → Is (sum (within S) K) n z → (sum (within S) K).grabs z (first r) ≡ false → before (first (words (sum (within S) K) z ++ r)) ≡ false
  keeps_by free k n (inl x) r i h = ap before (enters.starts n x r i) ∙ free
  keeps_by free k n (inr y) r i h = or_right _ _ (k n y r i h)

  pub past_deeper : {d : ℕ} {q : Parser T Z} → before (Some t) ≡ false → (inner : Option E) → Inside Good d inner → ((n : ℕ) → Viable K 0 n []) → Rule (Unit {0}) others K g d q
      → Rule (Unit {0}) before (sum (within S) K) (either f g) d (λ s. if is (first s.rest) then level inner body s else q s)
  past_deeper {d = d} {q = q} free inner h closes k = record {
    exact = λ l s b. by_token d inner h q (λ n y r i g. or_left _ _ (k.keeps n y r i g)) closes s (is (first s.rest)) refl (λ e. k.exact l s (or_both _ _ e b));
    closes = λ n. form_viable K (sum (within S) K) inr (right_form is (within S) K) d n [] (k.closes n);
    keeps = keeps_by free k.keeps;
  }
