-- Exact parsers: what one answers, whatever the kind of tree that it reads; and how one that reads two parts is made of two.
use Rattle.std.proofs.Common.{◌≡◌, ℕ, ◌+◌, ◌≤◌, Bool, true, false, ◌⊎◌, List, [], ◌∷◌, ◌++◌, length, Option, Ok, Err, refl, sym, ap, ◌∙◌, subst, arith, inl, inr, append_assoc, length-append}
use Rattle.dpi_grammar.specs.declared.stop.Stop.TheVariants.{Memory, Syntax, TooDeep}
use Rattle.dpi_grammar.specs.Told.{Told, ◌&◌, words_in, IsRight}
use Rattle.dpi_grammar.specs.Parser.{State, Outcome, Parser, and_then, first}
use Rattle.dpi_grammar.proofs.Lists.{Agrees, earlier, later, sooner, words_append, right_split, right_join}

-- a kind of tree: what a tree tells, and which next token would have gone on with it
pub record Kind (T X : Type 0) : Type 0 where
  pub told : X → Told T
  pub grabs : X → Option T → Bool

abbrev pub words : {T X : Type 0} → Kind T X → X → List T
words K x = words_in (K.told x).atoms

abbrev pub levels : {T X : Type 0} → Kind T X → X → ℕ
levels K x = (K.told x).levels

-- a tree whose first token has this number
abbrev pub Is : {T X : Type 0} → Kind T X → ℕ → X → Type 0
Is K n x = IsRight n (K.told x).atoms

module _ {T X : Type 0} (K : Kind T X) where
  -- a tree of at most d levels begins with these tokens
  pub record Viable (d n : ℕ) (seen : List T) : Type 0 where
    pub tree : X
    pub left : List T
    pub begins : words K tree ≡ seen ++ left
    pub is : Is K n tree
    pub few : levels K tree ≤ d

  -- the tree is the only one that goes on as the tokens do, up to the one after it
  pub record Found (d : ℕ) (s : State T) (x : X) (after : State T) : Type 0 where
    pub split : s.rest ≡ words K x ++ after.rest
    pub place : after.place ≡ s.place + length (words K x)
    pub is : Is K s.place x
    pub few : levels K x ≤ d
    pub before : K.grabs x (first after.rest) ≡ false
    pub only : (y : X) (r : List T) → Is K s.place y → K.grabs y (first r) ≡ false → Agrees (words K y ++ r) (words K x) after.rest → y ≡ x

  -- none of the trees goes on with the first token of rest
  pub record Stuck (Few : X → Type 0) (d : ℕ) (s : State T) (seen rest : List T) : Type 0 where
    pub split : s.rest ≡ seen ++ rest
    pub viable : Viable d s.place seen
    pub never : (y : X) (r : List T) → Is K s.place y → Few y → K.grabs y (first r) ≡ false → Agrees (words K y ++ r) seen rest → ⊥

  pub record Refused (d : ℕ) (s : State T) (at : ℕ) : Type 0 where
    pub seen : List T
    pub rest : List T
    pub place : at ≡ s.place + length seen
    pub stuck : Stuck (λ _. Unit {0}) d s seen rest

  -- none of at most d levels goes on, but another one does
  pub record TooFar (d : ℕ) (s : State T) (at : ℕ) : Type 0 where
    pub seen : List T
    pub rest : List T
    pub place : at ≡ s.place + length seen
    pub stuck : Stuck (λ y. levels K y ≤ d) d s seen rest
    pub deep : X
    pub deep_is : Is K s.place deep
    pub goes_on : (r : List T) → Agrees (words K deep ++ r) seen rest

-- the value is made of the tree that was found
pub record Made {T X Z : Type 0} (K : Kind T X) (make : X → Z) (d : ℕ) (s : State T) (z : Z) (after : State T) : Type 0 where
  pub tree : X
  pub is : make tree ≡ z
  pub found : Found K d s tree after

abbrev pub Answer : {T X Z : Type 0} → Kind T X → (X → Z) → ℕ → State T → Outcome T Z → Type 0
Answer K make d s (Ok p) = Made K make d s p.0 p.1
Answer K make d s (Err Memory) = ⊥
Answer K make d s (Err (Syntax at)) = Refused K d s at
Answer K make d s (Err (TooDeep at)) = TooFar K d s at

pub record Exact {T X Z : Type 0} (K : Kind T X) (make : X → Z) (d : ℕ) (s : State T) (o : Outcome T Z) : Type 0 where
  pub answer : Answer K make d s o

-- ---- one after another. What may be second can depend on the first.

abbrev pub pair : {T X Y : Type 0} → Kind T X → (X → Kind T Y) → Kind T (X × Y)
pair J K = record { told = λ p. J.told p.0 & (K p.0).told p.1; grabs = λ p t. (K p.0).grabs p.1 t }

-- no second part begins with a token that would have gone on with the first
abbrev pub Joins : {T X Y : Type 0} → Kind T X → (X → Kind T Y) → Type 0
Joins J K = (x : _) (m : ℕ) (y : _) (r : List _) → Is (K x) m y → (K x).grabs y (first r) ≡ false → J.grabs x (first (words (K x) y ++ r)) ≡ false

module _ {T X Y : Type 0} (J : Kind T X) (K : X → Kind T Y) (joins : Joins J K) where
  pair_words : (x : X) (y : Y) → words (pair J K) (x, y) ≡ words J x ++ words (K x) y
  pair_words x y = words_append (J.told x).atoms ((K x).told y).atoms

  pub regrouped : (x : X) (y : Y) (r : List T) → words (pair J K) (x, y) ++ r ≡ words J x ++ (words (K x) y ++ r)
  regrouped x y r = ap (λ w. w ++ r) (pair_words x y) ∙ append_assoc (words J x) (words (K x) y) r

  pub pair_is : (n : ℕ) (x : X) (y : Y) → Is (pair J K) n (x, y) → Is J n x × Is (K x) (n + length (words J x)) y
  pair_is n x y h = right_split n (n + length (words J x)) (J.told x).atoms ((K x).told y).atoms refl h

  is_pair : (n m : ℕ) (x : X) (y : Y) → m ≡ n + length (words J x) → Is J n x → Is (K x) m y → Is (pair J K) n (x, y)
  is_pair n m x y e h g = right_join n m (J.told x).atoms ((K x).told y).atoms e h g

  pub first_viable : (d n : ℕ) (seen : List T) (v : Viable J d n seen) → Viable (K v.tree) d (n + length (words J v.tree)) [] → Viable (pair J K) d n seen
  first_viable d n seen v w = record {
    tree = (v.tree, w.tree);
    left = v.left ++ words (K v.tree) w.tree;
    begins = pair_words v.tree w.tree ∙ ap (λ s. s ++ words (K v.tree) w.tree) v.begins ∙ append_assoc seen v.left (words (K v.tree) w.tree);
    is = is_pair n _ v.tree w.tree refl v.is w.is;
    few = omega (arith, v.few, w.few);
  }

  second_viable : (d : ℕ) (s : State T) (x : X) (s1 : State T) (seen : List T) → Found J d s x s1 → Viable (K x) d s1.place seen → Viable (pair J K) d s.place (words J x ++ seen)
  second_viable d s x s1 seen f v = record {
    tree = (x, v.tree);
    left = v.left;
    begins = pair_words x v.tree ∙ ap (λ s. words J x ++ s) v.begins ∙ sym (append_assoc (words J x) seen v.left);
    is = is_pair s.place s1.place x v.tree f.place f.is v.is;
    few = omega (arith, f.few, v.few);
  }

  first_stuck : (Few : X → Type 0) (Few2 : X × Y → Type 0) → ((p : X × Y) → Few2 p → Few p.0) → (d : ℕ) (s : State T) (seen rest : List T)
      → ((x : X) (m : ℕ) → Viable (K x) d m []) → Stuck J Few d s seen rest → Stuck (pair J K) Few2 d s seen rest
  first_stuck Few Few2 few d s seen rest w k = record {
    split = k.split;
    viable = first_viable d s.place seen k.viable (w k.viable.tree _);
    never = λ p r is f before agrees.
        let h = pair_is s.place p.0 p.1 is in
        k.never p.0 (words (K p.0) p.1 ++ r) h.0 (few p f) (joins p.0 _ p.1 r h.1 before) (subst (λ us. Agrees us seen rest) (regrouped p.0 p.1 r) agrees);
  }

  -- a pair that goes on as the tokens do begins with the same tree
  same_first : (d : ℕ) (s : State T) (x : X) (s1 : State T) (seen left : List T) → Found J d s x s1 → s1.rest ≡ seen ++ left
      → (x2 : X) (y : Y) (r : List T) → Is (pair J K) s.place (x2, y) → (K x2).grabs y (first r) ≡ false → Agrees (words (pair J K) (x2, y) ++ r) (words J x ++ seen) left → x2 ≡ x
  same_first d s x s1 seen left f e x2 y r is before agrees =
      let h = pair_is s.place x2 y is in
      let whole = subst (λ us. Agrees us (words J x ++ seen) left) (regrouped x2 y r) agrees in
      f.only x2 (words (K x2) y ++ r) h.0 (joins x2 _ y r h.1 before)
      (subst (λ s. Agrees (words J x2 ++ (words (K x2) y ++ r)) (words J x) s) (sym e) (earlier _ (words J x) seen left whole))

  then_second : (x : X) (seen left : List T) (y : Y) (r : List T) → Agrees (words (pair J K) (x, y) ++ r) (words J x ++ seen) left → Agrees (words (K x) y ++ r) seen left
  then_second x seen left y r agrees = later (words J x) _ _ _ (subst (λ us. Agrees us (words J x ++ seen) left) (regrouped x y r) agrees)

  second_never : (n m : ℕ) (Few : X × Y → Type 0) (x : X) (seen left : List T) → m ≡ n + length (words J x)
      → ((y : Y) (r : List T) → Is (K x) m y → Few (x, y) → (K x).grabs y (first r) ≡ false → Agrees (words (K x) y ++ r) seen left → ⊥)
      → (x2 : X) → x ≡ x2 → (y : Y) (r : List T) → Is (pair J K) n (x2, y) → Few (x2, y) → (K x2).grabs y (first r) ≡ false → Agrees (words (pair J K) (x2, y) ++ r) (words J x ++ seen) left → ⊥
  second_never n m Few x seen left at never x2 e =
      subst (λ x2. (y : Y) (r : List T) → Is (pair J K) n (x2, y) → Few (x2, y) → (K x2).grabs y (first r) ≡ false → Agrees (words (pair J K) (x2, y) ++ r) (words J x ++ seen) left → ⊥) e
      (λ y r is few before agrees. never y r (subst (λ k. Is (K x) k y) (sym at) (pair_is n x y is).1) few before (then_second x seen left y r agrees))

  second_only : (n m : ℕ) (x : X) (y0 : Y) (left : List T) → m ≡ n + length (words J x)
      → ((y : Y) (r : List T) → Is (K x) m y → (K x).grabs y (first r) ≡ false → Agrees (words (K x) y ++ r) (words (K x) y0) left → y ≡ y0)
      → (x2 : X) → x ≡ x2 → (y : Y) (r : List T) → Is (pair J K) n (x2, y) → (K x2).grabs y (first r) ≡ false → Agrees (words (pair J K) (x2, y) ++ r) (words J x ++ words (K x) y0) left → ◌≡◌ {A = X × Y} (x2, y) (x, y0)
  second_only n m x y0 left at only x2 e =
      subst (λ x2. (y : Y) (r : List T) → Is (pair J K) n (x2, y) → (K x2).grabs y (first r) ≡ false → Agrees (words (pair J K) (x2, y) ++ r) (words J x ++ words (K x) y0) left → ◌≡◌ {A = X × Y} (x2, y) (x, y0)) e
      (λ y r is before agrees. ap (λ y2. (x, y2)) (only y r (subst (λ k. Is (K x) k y) (sym at) (pair_is n x y is).1) before (then_second x _ left y r agrees)))

  second_stuck : (Few : Y → Type 0) (Few2 : X × Y → Type 0) (x : X) → ((y : Y) → Few2 (x, y) → Few y) → (d : ℕ) (s s1 : State T) (seen rest : List T)
      → Found J d s x s1 → Stuck (K x) Few d s1 seen rest → Stuck (pair J K) Few2 d s (words J x ++ seen) rest
  second_stuck Few Few2 x few d s s1 seen rest f k = record {
    split = f.split ∙ ap (λ s. words J x ++ s) k.split ∙ sym (append_assoc (words J x) seen rest);
    viable = second_viable d s x s1 seen f k.viable;
    never = λ p r is fits before agrees.
        let e = same_first d s x s1 seen rest f k.split p.0 p.1 r is before agrees in
        second_never s.place s1.place Few2 x seen rest f.place (λ y r2 is2 few2. k.never y r2 is2 (few y few2)) p.0 (sym e) p.1 r is fits before agrees;
  }

  second_found : (d : ℕ) (s : State T) (x : X) (s1 : State T) (y : Y) (s2 : State T) → Found J d s x s1 → Found (K x) d s1 y s2 → Found (pair J K) d s (x, y) s2
  second_found d s x s1 y s2 f g = record {
    split = f.split ∙ ap (λ s. words J x ++ s) g.split ∙ sym (regrouped x y s2.rest);
    place = omega (arith, g.place, f.place, ap length (pair_words x y), length-append (words J x) (words (K x) y));
    is = is_pair s.place s1.place x y f.place f.is g.is;
    few = omega (arith, f.few, g.few);
    before = g.before;
    only = λ p r is before agrees.
        let agrees2 = subst (λ w. Agrees (words (pair J K) p ++ r) w s2.rest) (pair_words x y) agrees in
        let e = same_first d s x s1 (words (K x) y) s2.rest f g.split p.0 p.1 r is before agrees2 in
        second_only s.place s1.place x y s2.rest f.place g.only p.0 (sym e) p.1 r is before agrees2;
  }

  after_found_by : {Z : Type 0} (make : X → Y → Z) (d : ℕ) (s : State T) (x : X) (s1 : State T) → Found J d s x s1
      → (o : Outcome T Z) → Answer (K x) (make x) d s1 o → Answer (pair J K) (λ p. make p.0 p.1) d s o
  unfolding second_stuck
  after_found_by make d s x s1 f (Ok z) m = record { tree = (x, m.tree); is = m.is; found = second_found d s x s1 m.tree z.1 f m.found }
  after_found_by make d s x s1 f (Err Memory) m = m
  after_found_by make d s x s1 f (Err (Syntax at)) m = record {
    seen = words J x ++ m.seen;
    rest = m.rest;
    place = omega (arith, m.place, f.place, length-append (words J x) m.seen);
    stuck = second_stuck _ _ x (λ p few. tt) d s s1 m.seen m.rest f m.stuck;
  }
  after_found_by make d s x s1 f (Err (TooDeep at)) m = record {
    seen = words J x ++ m.seen;
    rest = m.rest;
    place = omega (arith, m.place, f.place, length-append (words J x) m.seen);
    stuck = second_stuck _ _ x (λ y few. omega (arith, few)) d s s1 m.seen m.rest f m.stuck;
    deep = (x, m.deep);
    deep_is = is_pair s.place s1.place x m.deep f.place f.is m.deep_is;
    goes_on = λ r. subst (λ us. Agrees us (words J x ++ m.seen) m.rest) (sym (regrouped x m.deep r)) (sooner (words J x) _ _ _ (m.goes_on r));
  }

  seq_by : {A Z : Type 0} (value : X → A) (make : X → Y → Z) (d : ℕ) (s : State T) (o : Outcome T A) (q : A → Parser T Z) → ((x : X) (m : ℕ) → Viable (K x) d m [])
      → Answer J value d s o → ((x : X) (s1 : State T) → Found J d s x s1 → Exact (K x) (make x) d s1 (q (value x) s1))
      → Answer (pair J K) (λ p. make p.0 p.1) d s (and_then o q)
  unfolding first_stuck
  seq_by value make d s (Ok p) q w m next =
      subst (λ a. Answer (pair J K) (λ p. make p.0 p.1) d s (q a p.1)) m.is
      (after_found_by make d s m.tree p.1 m.found (q (value m.tree) p.1) (next m.tree p.1 m.found).answer)
  seq_by value make d s (Err Memory) q w m next = m
  seq_by value make d s (Err (Syntax at)) q w m next = record { seen = m.seen; rest = m.rest; place = m.place; stuck = first_stuck _ _ (λ p few. tt) d s m.seen m.rest w m.stuck }
  seq_by value make d s (Err (TooDeep at)) q w m next =
      let second = w m.deep (s.place + length (words J m.deep)) in
      record {
        seen = m.seen;
        rest = m.rest;
        place = m.place;
        stuck = first_stuck _ _ (λ p few. omega (arith, few)) d s m.seen m.rest w m.stuck;
        deep = (m.deep, second.tree);
        deep_is = is_pair s.place _ m.deep second.tree refl m.deep_is second.is;
        goes_on = λ r. subst (λ us. Agrees us m.seen m.rest) (sym (regrouped m.deep second.tree r)) (m.goes_on (words (K m.deep) second.tree ++ r));
      }

  -- q goes on from the value that was made of the first
  pub seq_exact : {A Z : Type 0} (value : X → A) (make : X → Y → Z) (d : ℕ) (s : State T) (o : Outcome T A) (q : A → Parser T Z) → ((x : X) (m : ℕ) → Viable (K x) d m [])
      → Exact J value d s o → ((x : X) (s1 : State T) → Found J d s x s1 → Exact (K x) (make x) d s1 (q (value x) s1))
      → Exact (pair J K) (λ p. make p.0 p.1) d s (and_then o q)
  seq_exact value make d s o q w m next = record { answer = seq_by value make d s o q w m.answer next }
