-- One of two kinds of tree, known by the next token, or by the one behind it.
use Rattle.std.proofs.Common.{◌≡◌, ℕ, ◌+◌, ◌≤◌, Bool, true, false, ◌⊎◌, List, [], ◌++◌, Option, Some, None, Ok, Err, refl, sym, ap, ◌∙◌, subst, arith, inl, inr}
use Rattle.dpi_grammar.specs.declared.stop.Stop.TheVariants.{TooDeep}
use Rattle.dpi_grammar.specs.Told.{Told}
use Rattle.dpi_grammar.specs.Parser.{State, Parser, and_then, first, expect, level}
use Rattle.dpi_grammar.specs.Choices.{choose, choose_by, opened, opened_by}
use Rattle.dpi_grammar.proofs.Lists.{true_not_false}
use Rattle.dpi_grammar.proofs.Exact.{Kind, words, levels, Is, Viable, Exact, pair}
use Rattle.dpi_grammar.proofs.Forms.{Form, told_form, Only, formed, form_viable, none_begins, opens, within, enter}
use Rattle.dpi_grammar.proofs.Rules.{Rule, never, place, numbered, behind, token_then, Knows, Inside, one_deeper}
use Rattle.dpi_grammar.proofs.Many.{Starts, Apart}

abbrev pub either : {X Y : Type 0} {Z : Type 0} → (X → Z) → (Y → Z) → X ⊎ Y → Z
either f g (inl x) = f x
either f g (inr y) = g y

abbrev pub sum_told : {T X Y : Type 0} → Kind T X → Kind T Y → X ⊎ Y → Told T
sum_told J K (inl x) = J.told x
sum_told J K (inr y) = K.told y

abbrev pub sum_grabs : {T X Y : Type 0} → Kind T X → Kind T Y → X ⊎ Y → Option T → Bool
sum_grabs J K (inl x) = J.grabs x
sum_grabs J K (inr y) = K.grabs y

abbrev pub sum : {T X Y : Type 0} → Kind T X → Kind T Y → Kind T (X ⊎ Y)
sum J K = record { told = sum_told J K; grabs = sum_grabs J K }

-- no tree goes on with such a token
abbrev pub Off : {T X : Type 0} → (Option T → Bool) → Kind T X → Type 0
Off begins K = (n : ℕ) (x : _) (r : List _) → Is K n x → K.grabs x (first r) ≡ false → begins (first (words K x ++ r)) ≡ false

not_true : (b : Bool) → (b ≡ true → ⊥) → b ≡ false
not_true true h = absurd (h refl)
not_true false h = refl

-- trees that begin with other tokens
pub starts_off : {T X : Type 0} (other begins : Option T → Bool) (K : Kind T X) → Starts other K → Apart other begins → Off begins K
starts_off other begins K starts apart n x r is g = apart _ (starts n x r is)

module _ {T X Y : Type 0} (begins : Option T → Bool) (J : Kind T X) (K : Kind T Y) where
  pub left_form : Form J (sum J K) inl
  left_form = told_form J (sum J K) inl (λ x. refl) (λ x t. refl)

  pub right_form : Form K (sum J K) inr
  right_form = told_form K (sum J K) inr (λ x. refl) (λ x t. refl)

  pub left_only : Off begins K → (t : Option T) → begins t ≡ true → Only J (sum J K) inl t
  left_only off t e n (inl x) r is g same = (x, is, refl)
  left_only off t e n (inr y) r is g same = true_not_false (begins t) e (ap begins (sym same) ∙ off n y r is g)

  pub right_only : Starts begins J → (t : Option T) → begins t ≡ false → Only K (sum J K) inr t
  right_only starts t e n (inl x) r is g same = true_not_false (begins t) (ap begins (sym same) ∙ starts n x r is) e
  right_only starts t e n (inr y) r is g same = (y, is, refl)

sum_keeps : {T X Y : Type 0} (before : Option T → Bool) (J : Kind T X) (K : Kind T Y)
    → ((n : ℕ) (x : X) (r : List T) → Is J n x → J.grabs x (first r) ≡ false → before (first (words J x ++ r)) ≡ false)
    → ((n : ℕ) (y : Y) (r : List T) → Is K n y → K.grabs y (first r) ≡ false → before (first (words K y ++ r)) ≡ false)
    → (n : ℕ) (z : X ⊎ Y) (r : List T) → Is (sum J K) n z → (sum J K).grabs z (first r) ≡ false → before (first (words (sum J K) z ++ r)) ≡ false
sum_keeps before J K left right n (inl x) r is g = left n x r is g
sum_keeps before J K left right n (inr y) r is g = right n y r is g

choose_exact : {T X Y Z : Type 0} (begins : Option T → Bool) (J : Kind T X) (K : Kind T Y) (f : X → Z) (g : Y → Z) (d : ℕ) (p q : Parser T Z) → Starts begins J → Off begins K
    → (s : State T) (b : Bool) → begins (first s.rest) ≡ b → Exact J f d s (p s) → Exact K g d s (q s) → Exact (sum J K) (either f g) d s (choose_by b p q s)
choose_exact begins J K f g d p q starts off s true e left right = formed J (sum J K) inl (left_form begins J K) (either f g) d s (p s) (left_only begins J K off _ e) left
choose_exact begins J K f g d p q starts off s false e left right = formed K (sum J K) inr (right_form begins J K) (either f g) d s (q s) (right_only begins J K starts _ e) right

-- the first kind where its trees begin so, else the second
pub choice : {T X Y Z : Type 0} {live : Type 0} {before : Option T → Bool} {J : Kind T X} {K : Kind T Y} {f : X → Z} {g : Y → Z} {d : ℕ} {p q : Parser T Z} (begins : Option T → Bool)
    → Starts begins J → Off begins K → Rule live before J f d p → Rule live before K g d q → Rule live before (sum J K) (either f g) d (choose begins p q)
choice {before = before} {J = J} {K = K} {f = f} {g = g} {d = d} {p = p} {q = q} begins starts off j k = record {
  exact = λ l s b. choose_exact begins J K f g d p q starts off s (begins (first s.rest)) refl (j.exact l s b) (k.exact l s b);
  closes = λ n. form_viable K (sum J K) inr (right_form begins J K) d n [] (k.closes n);
  keeps = sum_keeps before J K j.keeps k.keeps;
}

-- ---- the first one opens a level with its first token

-- what reads such a part, and how each begins
pub record Enters {T X Z E : Type 0} (Good : Type 0 → ℕ → E → Type 0) (is : Option T → Bool) (t : T) (S : Kind T X) (f : X → Z) (body : E → Parser T Z) : Type 1 where
  pub rule : (live : Type 0) (m : ℕ) (e : E) → Good live m e → Rule live never S f m (body e)
  pub some : E
  pub dead : (m : ℕ) → Good ⊥ m some
  pub knows : Knows is t
  pub starts : (n : ℕ) (x : X) (r : List T) → Is S n x → first (words S x ++ r) ≡ Some t

module _ {T X Y Z E : Type 0} (Good : Type 0 → ℕ → E → Type 0) (is : Option T → Bool) (t : T) (S : Kind T X) (f : X → Z) (body : E → Parser T Z) (enters : Enters Good is t S f body) (K : Kind T Y) (g : Y → Z) where
  enters_start : Starts is (within S)
  enters_start n x r h = ap is (enters.starts n x r h) ∙ enters.knows.yes

  choose_deeper : Off is K → (d : ℕ) (inner : Option E) → Inside Good d inner → (q : Parser T Z) → ((n : ℕ) → Viable K 0 n []) → (s : State T) (b : Bool) → is (first s.rest) ≡ b → Exact K g d s (q s)
      → Exact (sum (within S) K) (either f g) d s (choose_by b (level inner body) q s)
  choose_deeper off d inner h q closes s true e right =
      one_deeper Good S (sum (within S) K) inl (left_form is (within S) K) (either f g) body enters.rule enters.some enters.dead (λ n. form_viable K (sum (within S) K) inr (right_form is (within S) K) 0 n [] (closes n))
      d inner h s (λ n x r i. enters.starts n x r i ∙ sym (enters.knows.says _ e)) (left_only is (within S) K off _ e)
  choose_deeper off d inner h q closes s false e right = formed K (sum (within S) K) inr (right_form is (within S) K) (either f g) d s (q s) (right_only is (within S) K enters_start _ e) right

  -- a part that opens a level where it begins, else one of the second kind
  pub choice_deeper : {before : Option T → Bool} {d : ℕ} {q : Parser T Z} → Off is K → before (Some t) ≡ false → (inner : Option E) → Inside Good d inner → ((n : ℕ) → Viable K 0 n [])
      → Rule (Unit {0}) before K g d q → Rule (Unit {0}) before (sum (within S) K) (either f g) d (choose is (level inner body) q)
  choice_deeper {before = before} {d = d} {q = q} off apart inner h closes k = record {
    exact = λ l s b. choose_deeper off d inner h q closes s (is (first s.rest)) refl (k.exact l s b);
    closes = λ n. form_viable K (sum (within S) K) inr (right_form is (within S) K) d n [] (k.closes n);
    keeps = sum_keeps before (within S) K (λ n x r i free. ap before (enters.starts n x r i) ∙ apart) k.keeps;
  }

-- ---- a token before one of two parts, of which the second opens a level

-- what makes these parts such
pub record Opening {T X Y V E : Type 0} (Good : Type 0 → ℕ → E → Type 0) (is begins_flat begins_deep : Option T → Bool) (t : T) (F : Kind T X) (G : Kind T Y) (make : ℕ → X ⊎ Y → V)
    (flat : ℕ → Parser T V) (deep : ℕ → E → Parser T V) : Type 1 where
  pub flat_rule : (d k : ℕ) → Rule (Unit {0}) never F (λ x. make k (inl x)) d (flat k)
  pub deep_rule : (m k : ℕ) (e : E) → Good (Unit {0}) m e → Rule (Unit {0}) never G (λ y. make k (inr y)) m (deep k e)
  pub knows : Knows is t
  pub flat_starts : Starts begins_flat F
  pub deep_starts : Starts begins_deep G
  pub apart : Apart begins_flat begins_deep
  pub reach : (o : Option T) → begins_deep o ≡ true → (n : ℕ) → (y : Y) × Is G n y × ((r : List T) → first (words G y ++ r) ≡ o)

module _ {T X Y V E : Type 0} (Good : Type 0 → ℕ → E → Type 0) (is begins_flat begins_deep : Option T → Bool) (t : T) (F : Kind T X) (G : Kind T Y) (make : ℕ → X ⊎ Y → V)
    (flat : ℕ → Parser T V) (deep : ℕ → E → Parser T V) (o : Opening Good is begins_flat begins_deep t F G make flat deep) where
  abbrev parts : Kind T (X ⊎ Y)
  parts = sum F (within G)

  -- the token with its number, and then one of the parts
  abbrev pub opening : Kind T (ℕ × (X ⊎ Y))
  opening = pair (place never) (λ _. behind t parts)

  deep_off : Off begins_flat (within G)
  deep_off n y r h g = not_true _ (λ e. true_not_false (begins_deep (first (words G y ++ r))) (o.deep_starts n y r h) (o.apart _ e))

  parts_viable : (d k n : ℕ) → Viable parts d n []
  parts_viable d k n = form_viable F parts inl (left_form begins_flat F (within G)) d n [] ((o.flat_rule d k).closes n)

  none_there : (s : State T) → begins_flat (first s.rest) ≡ false → begins_deep (first s.rest) ≡ false → (n : ℕ) (z : X ⊎ Y) (r : List T) → Is parts n z → first (words parts z ++ r) ≡ first s.rest → ⊥
  none_there s e e2 n (inl x) r is same = true_not_false (begins_flat (first s.rest)) (ap begins_flat (sym same) ∙ o.flat_starts n x r is) e
  none_there s e e2 n (inr y) r is same = true_not_false (begins_deep (first s.rest)) (ap begins_deep (sym same) ∙ o.deep_starts n y r is) e2

  none_low : (s : State T) → begins_flat (first s.rest) ≡ false → (n : ℕ) (z : X ⊎ Y) (r : List T) → Is parts n z → first (words parts z ++ r) ≡ first s.rest → levels parts z ≤ 0 → ⊥
  none_low s e n (inl x) r is same few = true_not_false (begins_flat (first s.rest)) (ap begins_flat (sym same) ∙ o.flat_starts n x r is) e
  none_low s e n (inr y) r is same few = omega (arith, few)

  -- no level is left for the second part, which begins here
  none_left : (k : ℕ) (s : State T) → begins_flat (first s.rest) ≡ false → begins_deep (first s.rest) ≡ true → Exact parts (make k) 0 s (Err (TooDeep s.place))
  none_left k s e e2 =
      let deep = o.reach (first s.rest) e2 s.place in
      opens parts (make k) 0 s (inr deep.0) (parts_viable 0 k s.place) deep.1 deep.2 (λ n z r is g same few. none_low s e n z r is same few)

  behind_exact : (d : ℕ) (inner : Option E) → Inside Good d inner → (k : ℕ) (s : State T) (b c : Bool) → begins_flat (first s.rest) ≡ b → begins_deep (first s.rest) ≡ c → Exact parts (make k) d s (opened_by flat deep inner k b c s)
  behind_exact d inner h k s true c e e2 = formed F parts inl (left_form begins_flat F (within G)) (make k) d s (flat k s) (left_only begins_flat F (within G) deep_off _ e) ((o.flat_rule d k).exact tt s refl)
  behind_exact d None h k s false true e e2 = subst (λ d. Exact parts (make k) d s (Err (TooDeep s.place))) (sym h) (none_left k s e e2)
  behind_exact d (Some x) h k s false true e e2 =
      subst (λ d. Exact parts (make k) d s (deep k x s)) (sym h.1)
      (formed (within G) parts inr (right_form begins_flat F (within G)) (make k) (h.0 + 1) s (deep k x s) (right_only begins_flat F (within G) o.flat_starts _ e)
      (enter G (λ y. make k (inr y)) h.0 s (deep k x s) ((o.deep_rule h.0 k x h.2).exact tt s refl)))
  behind_exact d inner h k s false false e e2 = none_begins parts (make k) d s (parts_viable d k s.place) (λ n z r is g same. none_there s e e2 n z r is same)

  abbrev goes_on : Option E → ℕ → Parser T V
  goes_on inner k s1 = opened_by flat deep inner k (begins_flat (first s1.rest)) (begins_deep (first s1.rest)) s1

  part_rule : (d : ℕ) (inner : Option E) → Inside Good d inner → (k : ℕ) → Rule (Unit {0}) never parts (make k) d (goes_on inner k)
  part_rule d inner h k = record {
    exact = λ l s b. behind_exact d inner h k s _ _ refl refl;
    closes = parts_viable d k;
    keeps = λ n x r i g. refl;
  }

  pub opened_rule : (d : ℕ) (inner : Option E) → Inside Good d inner → Rule (Unit {0}) never opening (λ p. make p.0 p.1) d (opened is begins_flat begins_deep flat deep inner)
  opened_rule d inner h = numbered make (λ k s. and_then (expect is s) (λ _ s1. goes_on inner k s1)) (λ k. token_then is t o.knows refl (part_rule d inner h k))
