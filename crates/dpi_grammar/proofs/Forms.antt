-- Alternatives: of the trees of a kind, those that begin as the tokens do are of one form. And levels.
use Rattle.std.proofs.Common.{◌≡◌, ℕ, ◌+◌, ◌≤◌, Bool, false, List, [], ◌++◌, length, Option, Ok, Err, refl, sym, ap, ◌∙◌, subst, arith, inl}
use Rattle.dpi_grammar.specs.declared.stop.Stop.TheVariants.{Memory, Syntax, TooDeep}
use Rattle.dpi_grammar.specs.Told.{deeper, words_in, IsRight}
use Rattle.dpi_grammar.specs.Parser.{State, Outcome, first}
use Rattle.dpi_grammar.proofs.Lists.{Agrees, begins_alike}
use Rattle.dpi_grammar.proofs.Exact.{Kind, words, levels, Is, Viable, Found, Stuck, Answer, Exact}

-- what is made of a tree of S is a tree of K
pub record Form {T X Z : Type 0} (S : Kind T X) (K : Kind T Z) (make : X → Z) : Type 0 where
  pub tells : (n : ℕ) (x : X) → Is S n x → words K (make x) ≡ words S x
  pub levels_are : (n : ℕ) (x : X) → Is S n x → levels K (make x) ≡ levels S x
  pub is : (n : ℕ) (x : X) → Is S n x → Is K n (make x)
  pub grabs : (n : ℕ) (x : X) (t : Option T) → Is S n x → K.grabs (make x) t ≡ S.grabs x t

-- where it tells the same
pub told_form : {T X Z : Type 0} (S : Kind T X) (K : Kind T Z) (make : X → Z) → ((x : X) → K.told (make x) ≡ S.told x) → ((x : X) (t : Option T) → K.grabs (make x) t ≡ S.grabs x t) → Form S K make
told_form S K make told grabs = record {
  tells = λ n x is. ap (λ a. words_in a.atoms) (told x);
  levels_are = λ n x is. ap (λ a. a.levels) (told x);
  is = λ n x is. subst (λ a. IsRight n a.atoms) (sym (told x)) is;
  grabs = λ n x t is. grabs x t;
}

-- a tree that begins with a token like this one is of this form
abbrev pub Only : {T X Z : Type 0} → Kind T X → Kind T Z → (X → Z) → Option T → Type 0
Only S K make t = (n : ℕ) (z : _) (r : List _) → Is K n z → K.grabs z (first r) ≡ false → first (words K z ++ r) ≡ t → (x : _) × Is S n x × (make x ≡ z)

-- the same where both tell the same
pub only_told : {T X Z : Type 0} (S : Kind T X) (K : Kind T Z) (make : X → Z) → ((x : X) → K.told (make x) ≡ S.told x) → (t : Option T)
    → ((n : ℕ) (z : Z) (r : List T) → Is K n z → K.grabs z (first r) ≡ false → first (words K z ++ r) ≡ t → (x : X) × (make x ≡ z)) → Only S K make t
only_told S K make told t only n z r is grabs begins =
    let o = only n z r is grabs begins in
    (o.0, subst (λ a. IsRight n a.atoms) (told o.0) (subst (λ z. Is K n z) (sym o.1) is), o.1)

module _ {T X Z : Type 0} (S : Kind T X) (K : Kind T Z) (make : X → Z) (form : Form S K make) where
  pub form_viable : (d n : ℕ) (seen : List T) → Viable S d n seen → Viable K d n seen
  form_viable d n seen v = record {
    tree = make v.tree;
    left = v.left;
    begins = form.tells n v.tree v.is ∙ v.begins;
    is = form.is n v.tree v.is;
    few = subst (λ k. k ≤ d) (sym (form.levels_are n v.tree v.is)) v.few;
  }

  form_stuck : (Few : X → Type 0) (Few2 : Z → Type 0) (d : ℕ) (s : State T) (seen rest : List T) → ((x : X) → Is S s.place x → Few2 (make x) → Few x)
      → Only S K make (first s.rest) → Stuck S Few d s seen rest → Stuck K Few2 d s seen rest
  form_stuck Few Few2 d s seen rest few only k = record {
    split = k.split;
    viable = form_viable d s.place seen k.viable;
    never = λ z r is fits before agrees.
        let o = only s.place z r is before (begins_alike _ seen rest agrees ∙ sym (ap first k.split)) in
        subst (λ z2. (r : List T) → Few2 z2 → K.grabs z2 (first r) ≡ false → Agrees (words K z2 ++ r) seen rest → ⊥) o.2
        (λ r2 fits2 before2 agrees2. k.never o.0 r2 o.1 (few o.0 o.1 fits2) (sym (form.grabs s.place o.0 _ o.1) ∙ before2) (subst (λ w. Agrees (w ++ r2) seen rest) (form.tells s.place o.0 o.1) agrees2))
        r fits before agrees;
  }

  form_found : (d : ℕ) (s : State T) (x : X) (after : State T) → Only S K make (first s.rest) → Found S d s x after → Found K d s (make x) after
  form_found d s x after only f = record {
    split = f.split ∙ ap (λ w. w ++ after.rest) (sym (form.tells s.place x f.is));
    place = f.place ∙ ap (λ w. s.place + length w) (sym (form.tells s.place x f.is));
    is = form.is s.place x f.is;
    few = subst (λ k. k ≤ d) (sym (form.levels_are s.place x f.is)) f.few;
    before = form.grabs s.place x _ f.is ∙ f.before;
    only = λ z r is before agrees.
        let same = form.tells s.place x f.is in
        let o = only s.place z r is before (begins_alike _ (words K (make x)) after.rest agrees ∙ ap (λ w. first (w ++ after.rest)) same ∙ sym (ap first f.split)) in
        subst (λ z2. (r : List T) → K.grabs z2 (first r) ≡ false → Agrees (words K z2 ++ r) (words K (make x)) after.rest → z2 ≡ make x) o.2
        (λ r2 before2 agrees2. ap make (f.only o.0 r2 o.1 (sym (form.grabs s.place o.0 _ o.1) ∙ before2)
        (subst (λ w. Agrees (w ++ r2) (words S x) after.rest) (form.tells s.place o.0 o.1) (subst (λ w. Agrees (words K (make o.0) ++ r2) w after.rest) same agrees2))))
        r before agrees;
  }

  formed_by : {W : Type 0} (use_it : Z → W) (d : ℕ) (s : State T) (o : Outcome T W) → Only S K make (first s.rest) → Answer S (λ x. use_it (make x)) d s o → Answer K use_it d s o
  unfolding form_stuck
  formed_by use_it d s (Ok z) only m = record { tree = make m.tree; is = m.is; found = form_found d s m.tree z.1 only m.found }
  formed_by use_it d s (Err Memory) only m = m
  formed_by use_it d s (Err (Syntax at)) only m = record { seen = m.seen; rest = m.rest; place = m.place; stuck = form_stuck _ _ d s m.seen m.rest (λ x is few. tt) only m.stuck }
  formed_by use_it d s (Err (TooDeep at)) only m = record {
    seen = m.seen;
    rest = m.rest;
    place = m.place;
    stuck = form_stuck _ _ d s m.seen m.rest (λ x is few. subst (λ k. k ≤ d) (form.levels_are s.place x is) few) only m.stuck;
    deep = make m.deep;
    deep_is = form.is s.place m.deep m.deep_is;
    goes_on = λ r. subst (λ w. Agrees (w ++ r) m.seen m.rest) (sym (form.tells s.place m.deep m.deep_is)) (m.goes_on r);
  }

  pub formed : {W : Type 0} (use_it : Z → W) (d : ℕ) (s : State T) (o : Outcome T W) → Only S K make (first s.rest) → Exact S (λ x. use_it (make x)) d s o → Exact K use_it d s o
  formed use_it d s o only m = record { answer = formed_by use_it d s o only m.answer }

-- no tree begins with the first token
pub none_begins : {T Z W : Type 0} (K : Kind T Z) (use_it : Z → W) (d : ℕ) (s : State T) → Viable K d s.place []
    → ((n : ℕ) (z : Z) (r : List T) → Is K n z → K.grabs z (first r) ≡ false → first (words K z ++ r) ≡ first s.rest → ⊥) → Exact K use_it d s (Err (Syntax s.place))
none_begins K use_it d s w none = record {
  answer = record {
    seen = [];
    rest = s.rest;
    place = omega arith;
    stuck = record { split = refl; viable = w; never = λ z r is few before agrees. none s.place z r is before agrees };
  };
}

-- the first token opens one level too many
pub opens : {T Z W : Type 0} (K : Kind T Z) (use_it : Z → W) (d : ℕ) (s : State T) (deep : Z) → Viable K d s.place [] → Is K s.place deep → ((r : List T) → first (words K deep ++ r) ≡ first s.rest)
    → ((n : ℕ) (z : Z) (r : List T) → Is K n z → K.grabs z (first r) ≡ false → first (words K z ++ r) ≡ first s.rest → levels K z ≤ d → ⊥) → Exact K use_it d s (Err (TooDeep s.place))
opens K use_it d s deep w is begins none = record {
  answer = record {
    seen = [];
    rest = s.rest;
    place = omega arith;
    stuck = record { split = refl; viable = w; never = λ z r is few before agrees. none s.place z r is before agrees few };
    deep = deep;
    deep_is = is;
    goes_on = begins;
  };
}

-- ---- one level

abbrev pub within : {T X : Type 0} → Kind T X → Kind T X
within K = record { told = λ x. deeper (K.told x); grabs = K.grabs }

module _ {T X : Type 0} (K : Kind T X) where
  pub within_viable : (d n : ℕ) (seen : List T) → Viable K d n seen → Viable (within K) (d + 1) n seen
  within_viable d n seen v = record { tree = v.tree; left = v.left; begins = v.begins; is = v.is; few = omega (arith, v.few) }

  within_stuck : (Few Few2 : X → Type 0) → ((x : X) → Few2 x → Few x) → (d : ℕ) (s : State T) (seen rest : List T) → Stuck K Few d s seen rest → Stuck (within K) Few2 (d + 1) s seen rest
  within_stuck Few Few2 few d s seen rest k = record {
    split = k.split;
    viable = within_viable d s.place seen k.viable;
    never = λ y r is fits before agrees. k.never y r is (few y fits) before agrees;
  }

  enter_by : {Z : Type 0} (make : X → Z) (d : ℕ) (s : State T) (o : Outcome T Z) → Answer K make d s o → Answer (within K) make (d + 1) s o
  unfolding within_stuck
  enter_by make d s (Ok z) m = record {
    tree = m.tree;
    is = m.is;
    found = record {
      split = m.found.split;
      place = m.found.place;
      is = m.found.is;
      few = omega (arith, m.found.few);
      before = m.found.before;
      only = m.found.only;
    };
  }
  enter_by make d s (Err Memory) m = m
  enter_by make d s (Err (Syntax at)) m = record { seen = m.seen; rest = m.rest; place = m.place; stuck = within_stuck _ _ (λ _ _. tt) d s m.seen m.rest m.stuck }
  enter_by make d s (Err (TooDeep at)) m = record {
    seen = m.seen;
    rest = m.rest;
    place = m.place;
    stuck = within_stuck _ _ (λ x few. omega (arith, few)) d s m.seen m.rest m.stuck;
    deep = m.deep;
    deep_is = m.deep_is;
    goes_on = m.goes_on;
  }

  pub enter : {Z : Type 0} (make : X → Z) (d : ℕ) (s : State T) (o : Outcome T Z) → Exact K make d s o → Exact (within K) make (d + 1) s o
  enter make d s o m = record { answer = enter_by make d s o m.answer }
