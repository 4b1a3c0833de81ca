-- One of two kinds of tree by the next token, where the second one's rule is for other tokens alone; and some trees of a kind.
use Rattle.std.proofs.Common.{◌≡◌, ℕ, ◌≤◌, Bool, true, false, ◌||◌, ◌⊎◌, List, [], ◌∷◌, ◌++◌, Option, Some, None, Ok, Err, refl, sym, ap, ◌∙◌, subst, arith, inl, inr}
use Rattle.dpi_grammar.specs.declared.stop.Stop.TheVariants.{Memory, Syntax, TooDeep}
use Rattle.dpi_grammar.specs.Told.{◌&◌, kept}
use Rattle.dpi_grammar.specs.Parser.{State, Outcome, Parser, first}
use Rattle.dpi_grammar.specs.Choices.{choose, choose_by}
use Rattle.dpi_grammar.proofs.Lists.{Agrees, begins_alike}
use Rattle.dpi_grammar.proofs.Exact.{Kind, words, Is, Viable, Found, Stuck, Answer, Exact}
use Rattle.dpi_grammar.proofs.Forms.{formed, form_viable}
use Rattle.dpi_grammar.proofs.Rules.{Rule, never}
use Rattle.dpi_grammar.proofs.Many.{Starts, or_left, or_right, or_both}
use Rattle.dpi_grammar.proofs.Choices.{either, sum, left_form, right_form, left_only, right_only}

module _ {T X Y : Type 0} (begins before : Option T → Bool) (J : Kind T X) (K : Kind T Y) where
  -- what the second kind stands behind
  abbrev pub past : Option T → Bool
  past t = begins t || before t

  past_by : {Z : Type 0} (f : X → Z) (g : Y → Z) (d : ℕ) (p q : Parser T Z) → Starts begins J → ((n : ℕ) (y : Y) (r : List T) → Is K n y → K.grabs y (first r) ≡ false → begins (first (words K y ++ r)) ≡ false)
      → (s : State T) (b : Bool) → begins (first s.rest) ≡ b → (b ≡ true → Exact J f d s (p s)) → (b ≡ false → Exact K g d s (q s)) → Exact (sum J K) (either f g) d s (choose_by b p q s)
  past_by f g d p q starts off s true e left right = formed J (sum J K) inl (left_form begins J K) (either f g) d s (p s) (left_only begins J K off _ e) (left refl)
  past_by f g d p q starts off s false e left right = formed K (sum J K) inr (right_form begins J K) (either f g) d s (q s) (right_only begins J K starts _ e) (right refl)

  keeps_by : ((n : ℕ) (x : X) (r : List T) → Is J n x → J.grabs x (first r) ≡ false → before (first (words J x ++ r)) ≡ false)
      → ((n : ℕ) (y : Y) (r : List T) → Is K n y → K.grabs y (first r) ≡ false → past (first (words K y ++ r)) ≡ false)
      → (n : ℕ) (z : X ⊎ Y) (r : List T) → Is (sum J K) n z → (sum J K).grabs z (first r) ≡ false → before (first (words (sum J K) z ++ r)) ≡ false
  keeps_by j k n (inl x) r is g = j n x r is g
  keeps_by j k n (inr y) r is g = or_right _ _ (k n y r is g)

  -- the first kind where its trees begin so, else the second
  pub choice_past : {Z : Type 0} {live : Type 0} {f : X → Z} {g : Y → Z} {d : ℕ} {p q : Parser T Z} → Starts begins J → Rule live before J f d p → Rule live past K g d q
      → Rule live before (sum J K) (either f g) d (choose begins p q)
  choice_past {f = f} {g = g} {d = d} {p = p} {q = q} starts j k = record {
    exact = λ l s b. past_by f g d p q starts (λ n y r is h. or_left _ _ (k.keeps n y r is h)) s (begins (first s.rest)) refl (λ e. j.exact l s b) (λ e. k.exact l s (or_both _ _ e b));
    closes = λ n. form_viable J (sum J K) inl (left_form begins J K) d n [] (j.closes n);
    keeps = keeps_by j.keeps k.keeps;
  }

-- ---- the trees of a kind that don't begin with some tokens

module _ {T X : Type 0} (begins : Option T → Bool) (test : X → Bool) (J : Kind T X) where
  -- those trees that pass the test
  abbrev pub narrow : Kind T X
  narrow = record { told = λ x. kept (test x) & J.told x; grabs = J.grabs }

  -- a tree that begins with another token passes the test
  abbrev pub Passes : Type 0
  Passes = (n : ℕ) (x : X) (r : List T) → Is J n x → begins (first (words J x ++ r)) ≡ false → test x ≡ true

  module _ (passes : Passes) where
    narrow_is : (n : ℕ) (x : X) (r : List T) (t : Option T) → Is J n x → first (words J x ++ r) ≡ t → begins t ≡ false → Is narrow n x
    narrow_is n x r t is same e = (passes n x r is (ap begins same ∙ e), is)

    narrow_viable : (d : ℕ) (s : State T) (seen rest : List T) → ((n : ℕ) → Viable narrow d n []) → begins (first s.rest) ≡ false → s.rest ≡ seen ++ rest → Viable J d s.place seen → Viable narrow d s.place seen
    narrow_viable d s [] rest closes e split v = closes s.place
    narrow_viable d s (t ∷ seen) rest closes e split v = record {
      tree = v.tree;
      left = v.left;
      begins = v.begins;
      is = narrow_is s.place v.tree [] (first s.rest) v.is (ap (λ w. first (w ++ [])) v.begins ∙ sym (ap first split)) e;
      few = omega (arith, v.few);
    }

    narrow_stuck : (Few Few2 : X → Type 0) → ((x : X) → Few2 x → Few x) → (d : ℕ) (s : State T) (seen rest : List T) → ((n : ℕ) → Viable narrow d n []) → begins (first s.rest) ≡ false → Stuck J Few d s seen rest → Stuck narrow Few2 d s seen rest
    narrow_stuck Few Few2 fits d s seen rest closes e k = record {
      split = k.split;
      viable = narrow_viable d s seen rest closes e k.split k.viable;
      never = λ y r is few g agrees. k.never y r is.1 (fits y few) g agrees;
    }

    narrowed_by : {Z : Type 0} (f : X → Z) (d : ℕ) (s : State T) (o : Outcome T Z) → ((n : ℕ) → Viable narrow d n []) → begins (first s.rest) ≡ false → Answer J f d s o → Answer narrow f d s o
    narrowed_by f d s (Ok p) closes e m = record {
      tree = m.tree;
      is = m.is;
      found = record {
        split = m.found.split;
        place = m.found.place;
        is = narrow_is s.place m.tree p.1.rest (first s.rest) m.found.is (sym (ap first m.found.split)) e;
        few = omega (arith, m.found.few);
        before = m.found.before;
        only = λ y r is g agrees. m.found.only y r is.1 g agrees;
      };
    }
    narrowed_by f d s (Err Memory) closes e m = m
    narrowed_by f d s (Err (Syntax at)) closes e m = record { seen = m.seen; rest = m.rest; place = m.place; stuck = narrow_stuck _ _ (λ x few. tt) d s m.seen m.rest closes e m.stuck }
    narrowed_by f d s (Err (TooDeep at)) closes e m = record {
      seen = m.seen;
      rest = m.rest;
      place = m.place;
      stuck = narrow_stuck _ _ (λ x few. omega (arith, few)) d s m.seen m.rest closes e m.stuck;
      deep = m.deep;
      deep_is = narrow_is s.place m.deep [] (first s.rest) m.deep_is (begins_alike _ m.seen m.rest (m.goes_on []) ∙ sym (ap first m.stuck.split)) e;
      goes_on = m.goes_on;
    }

    -- A parser of the whole kind is exact for those, where the token isn't one of them.
    pub narrowed : {Z : Type 0} {live : Type 0} {f : X → Z} {d : ℕ} {p : Parser T Z} → ((n : ℕ) → Viable narrow d n []) → ((n : ℕ) (x : X) (r : List T) → Is narrow n x → begins (first (words J x ++ r)) ≡ false)
        → Rule live never J f d p → Rule live begins narrow f d p
    narrowed {f = f} {d = d} {p = p} closes other k = record {
      exact = λ l s b. record { answer = narrowed_by f d s (p s) closes b (k.exact l s refl).answer };
      closes = closes;
      keeps = λ n x r is g. other n x r is;
    }
