-- Rules: a parser that is exact, with a shortest tree and with what its trees may stand behind. One lemma for each way to build one.
use Rattle.std.proofs.Common.{◌≡◌, ℕ, ◌+◌, ◌≤◌, Bool, true, false, List, [], ◌∷◌, ◌++◌, Option, Some, None, Ok, Err, refl, sym, ap, ◌∙◌, subst, arith}
use Rattle.dpi_grammar.specs.declared.stop.Stop.TheVariants.{Memory, Syntax, TooDeep}
use Rattle.dpi_grammar.specs.Told.{◌&◌, word, noted, kept, IsRight}
use Rattle.dpi_grammar.specs.Parser.{State, Outcome, Parser, and_then, first, expect, skip_if, taken, token, level}
use Rattle.dpi_grammar.proofs.Lists.{split_first, step_place, true_not_false}
use Rattle.dpi_grammar.proofs.Exact.{Kind, words, levels, Is, Viable, Answer, Exact, pair, Joins, seq_exact, first_viable, regrouped, pair_is}
use Rattle.dpi_grammar.proofs.Forms.{Form, told_form, Only, formed, form_viable, none_begins, opens, within, enter}

-- a test that no token passes
abbrev pub never : {T : Type 0} → Option T → Bool
never t = false

-- Where no token follows that would have gone on with what stands before, the parser is exact. A rule that isn't live has no parser.
pub record Rule {T X Z : Type 0} (live : Type 0) (before : Option T → Bool) (K : Kind T X) (make : X → Z) (d : ℕ) (p : Parser T Z) : Type 0 where
  pub exact : live → (s : State T) → before (first s.rest) ≡ false → Exact K make d s (p s)
  pub closes : (n : ℕ) → Viable K d n []
  pub keeps : (n : ℕ) (x : X) (r : List T) → Is K n x → K.grabs x (first r) ≡ false → before (first (words K x ++ r)) ≡ false

-- q goes on from the value of the first part
pub seq : {T X Y A Z : Type 0} {live : Type 0} {before : Option T → Bool} {F : Kind T X} {K : X → Kind T Y} {d : ℕ} {p : Parser T A} (value : X → A) (make : X → Y → Z) (q : A → Parser T Z)
    → Rule live before F value d p → ((x : X) → Rule live (F.grabs x) (K x) (make x) d (q (value x)))
    → Rule live before (pair F K) (λ p. make p.0 p.1) d (λ s. and_then (p s) q)
seq {before = before} {F = F} {K = K} {d = d} {p = p} value make q j k =
    let joins : Joins F K = λ x m y r is g. (k x).keeps m y r is g in
    record {
      exact = λ l s b. seq_exact F K joins value make d s (p s) q (λ x m. (k x).closes m) (j.exact l s b) (λ x s1 f. (k x).exact l s1 f.before);
      closes = λ n. let v = j.closes n in first_viable F K joins d n [] v ((k v.tree).closes _);
      keeps = λ n x r is g.
          let h = pair_is F K joins n x.0 x.1 is in
          subst (λ w. before (first w) ≡ false) (sym (regrouped F K joins x.0 x.1 r)) (j.keeps n x.0 (words (K x.0) x.1 ++ r) h.0 ((k x.0).keeps _ x.1 r h.1 g));
    }

-- a value made of what was read
mapped_by : {T X Y Z : Type 0} (K : Kind T X) (make : X → Y) (f : Y → Z) (d : ℕ) (s : State T) (o : Outcome T Y) → Answer K make d s o → Answer K (λ x. f (make x)) d s (and_then o (λ y s. Ok (f y, s)))
mapped_by K make f d s (Ok z) m = record { tree = m.tree; is = ap f m.is; found = m.found }
mapped_by K make f d s (Err Memory) m = m
mapped_by K make f d s (Err (Syntax n)) m = m
mapped_by K make f d s (Err (TooDeep n)) m = m

pub mapped_exact : {T X Y Z : Type 0} (K : Kind T X) (make : X → Y) (f : Y → Z) (d : ℕ) (s : State T) (o : Outcome T Y) → Exact K make d s o → Exact K (λ x. f (make x)) d s (and_then o (λ y s. Ok (f y, s)))
mapped_exact K make f d s o m = record { answer = mapped_by K make f d s o m.answer }

pub mapped : {T X Y Z : Type 0} {live : Type 0} {before : Option T → Bool} {K : Kind T X} {make : X → Y} {d : ℕ} {p : Parser T Y} (f : Y → Z)
    → Rule live before K make d p → Rule live before K (λ x. f (make x)) d (λ s. and_then (p s) (λ y s. Ok (f y, s)))
mapped {K = K} {make = make} {d = d} {p = p} f k = record {
  exact = λ l s b. mapped_exact K make f d s (p s) (k.exact l s b);
  closes = k.closes;
  keeps = k.keeps;
}

-- the same value, made in another way
remade_by : {T X Z : Type 0} (K : Kind T X) (make make2 : X → Z) (d : ℕ) (s : State T) (o : Outcome T Z) → ((x : X) → make2 x ≡ make x) → Answer K make d s o → Answer K make2 d s o
remade_by K make make2 d s (Ok z) e m = record { tree = m.tree; is = e m.tree ∙ m.is; found = m.found }
remade_by K make make2 d s (Err Memory) e m = m
remade_by K make make2 d s (Err (Syntax n)) e m = m
remade_by K make make2 d s (Err (TooDeep n)) e m = m

pub remade_exact : {T X Z : Type 0} (K : Kind T X) (make make2 : X → Z) (d : ℕ) (s : State T) (o : Outcome T Z) → ((x : X) → make2 x ≡ make x) → Exact K make d s o → Exact K make2 d s o
remade_exact K make make2 d s o e m = record { answer = remade_by K make make2 d s o e m.answer }

pub remade : {T X Z : Type 0} {live : Type 0} {before : Option T → Bool} {K : Kind T X} {make : X → Z} {d : ℕ} {p : Parser T Z} (make2 : X → Z) → ((x : X) → make2 x ≡ make x)
    → Rule live before K make d p → Rule live before K make2 d p
remade {K = K} {make = make} {d = d} {p = p} make2 e k = record {
  exact = λ l s b. remade_exact K make make2 d s (p s) e (k.exact l s b);
  closes = k.closes;
  keeps = k.keeps;
}

-- the same rule behind something else
pub put : {T X Z : Type 0} {live : Type 0} {K : Kind T X} {make : X → Z} {d : ℕ} {p : Parser T Z} (before : Option T → Bool)
    → ((n : ℕ) (x : X) (r : List T) → Is K n x → K.grabs x (first r) ≡ false → before (first (words K x ++ r)) ≡ false)
    → Rule live never K make d p → Rule live before K make d p
put before keeps k = record { exact = λ l s b. k.exact l s refl; closes = k.closes; keeps = keeps }

-- every tree is of this form
pub shaped : {T X Z W : Type 0} {live : Type 0} {before : Option T → Bool} {S : Kind T X} {d : ℕ} {p : Parser T W} (K : Kind T Z) (make : X → Z) (use_it : Z → W) → Form S K make
    → ((n : ℕ) (z : Z) → Is K n z → (x : X) × Is S n x × (make x ≡ z)) → Rule live before S (λ x. use_it (make x)) d p → Rule live before K use_it d p
shaped {before = before} {S = S} {d = d} {p = p} K make use_it form all k = record {
  exact = λ l s b. formed S K make form use_it d s (p s) (λ n z r is g e. all n z is) (k.exact l s b);
  closes = λ n. form_viable S K make form d n [] (k.closes n);
  keeps = λ n z r is g.
      let o = all n z is in
      subst (λ z. K.grabs z (first r) ≡ false → before (first (words K z ++ r)) ≡ false) o.2
      (λ g. subst (λ w. before (first (w ++ r)) ≡ false) (sym (form.tells n o.0 o.1)) (k.keeps n o.0 r o.1 (sym (form.grabs n o.0 _ o.1) ∙ g))) g;
}

-- the same where both tell the same
pub told_as : {T X Z W : Type 0} {live : Type 0} {before : Option T → Bool} {S : Kind T X} {d : ℕ} {p : Parser T W} (K : Kind T Z) (make : X → Z) (use_it : Z → W)
    → ((x : X) → K.told (make x) ≡ S.told x) → ((x : X) (t : Option T) → K.grabs (make x) t ≡ S.grabs x t) → ((z : Z) → (x : X) × (make x ≡ z))
    → Rule live before S (λ x. use_it (make x)) d p → Rule live before K use_it d p
told_as {S = S} K make use_it told grabs all k = shaped K make use_it (told_form S K make told grabs)
    (λ n z is. let o = all z in (o.0, subst (λ a. IsRight n a.atoms) (told o.0) (subst (λ z. Is K n z) (sym o.1) is), o.1)) k

-- ---- the number of the next token

abbrev pub place : {T : Type 0} → (Option T → Bool) → Kind T ℕ
place before = record { told = noted; grabs = λ _. before }

pub at : {T : Type 0} {live : Type 0} {d : ℕ} (before : Option T → Bool) → Rule live before (place before) (λ n. n) d (λ s. Ok (s.place, s))
at before = record {
  exact = λ l s b. record {
    answer = record {
      tree = s.place;
      is = refl;
      found = record { split = refl; place = omega arith; is = (refl, tt); few = omega arith; before = b; only = λ y r is g agrees. is.0 };
    };
  };
  closes = λ n. record { tree = n; left = []; begins = refl; is = (refl, tt); few = omega arith };
  keeps = λ n x r is g. g;
}

-- the number first
pub numbered : {T Y Z : Type 0} {live : Type 0} {before : Option T → Bool} {K : ℕ → Kind T Y} {d : ℕ} (make : ℕ → Y → Z) (q : ℕ → Parser T Z)
    → ((n : ℕ) → Rule live before (K n) (make n) d (q n)) → Rule live before (pair (place before) K) (λ p. make p.0 p.1) d (λ s. q s.place s)
numbered {before = before} make q k = seq (λ n. n) make q (at before) k

-- ---- a token that has to come

-- the test knows the token
pub record Knows {T : Type 0} (is : Option T → Bool) (t : T) : Type 0 where
  pub says : (o : Option T) → is o ≡ true → o ≡ Some t
  pub yes : is (Some t) ≡ true

abbrev pub one : {T : Type 0} → T → Kind T (Unit {0})
one t = record { told = λ _. word t; grabs = λ _ _. false }

skip_exact : {T : Type 0} (is : Option T → Bool) (t : T) (knows : Knows is t) (d : ℕ) (s : State T) (b : Bool) → is (first s.rest) ≡ b → Exact (one t) (λ u. u) d s (skip_if b s)
skip_exact is t knows d s true e =
    let begins = knows.says _ e in
    record {
      answer = record {
        tree = tt;
        is = refl;
        found = record {
          split = split_first s.place s.rest t begins;
          place = step_place s.place s.rest t begins;
          is = tt;
          few = omega arith;
          before = refl;
          only = λ y r is g agrees. refl;
        };
      };
    }
skip_exact is t knows d s false e = none_begins (one t) (λ u. u) d s (record { tree = tt; left = t ∷ []; begins = refl; is = tt; few = omega arith })
    (λ n z r i g same. true_not_false (is (first s.rest)) (ap is (sym same) ∙ knows.yes) e)

pub expected : {T : Type 0} {live : Type 0} {before : Option T → Bool} {d : ℕ} (is : Option T → Bool) (t : T) → Knows is t → before (Some t) ≡ false → Rule live before (one t) (λ u. u) d (expect is)
expected {d = d} is t knows apart = record {
  exact = λ l s b. skip_exact is t knows d s (is (first s.rest)) refl;
  closes = λ n. record { tree = tt; left = t ∷ []; begins = refl; is = tt; few = omega arith };
  keeps = λ n x r i g. apart;
}

abbrev pub behind : {T X : Type 0} → T → Kind T X → Kind T X
behind t K = record { told = λ x. word t & K.told x; grabs = K.grabs }

-- a token, and then the rest
pub token_then : {T X Z : Type 0} {live : Type 0} {before : Option T → Bool} {K : Kind T X} {make : X → Z} {d : ℕ} {q : Parser T Z} (is : Option T → Bool) (t : T) → Knows is t → before (Some t) ≡ false
    → Rule live never K make d q → Rule live before (behind t K) make d (λ s. and_then (expect is s) (λ _. q))
token_then {K = K} {make = make} {q = q} is t knows apart k =
    told_as (behind t K) (λ p. p.1) make (λ x. refl) (λ x t. refl) (λ z. ((tt, z), refl)) (seq (λ u. u) (λ u x. make x) (λ _. q) (expected is t knows apart) (λ u. k))

-- a token ends it
pub last : {T Z : Type 0} {live : Type 0} {before : Option T → Bool} {d : ℕ} (is : Option T → Bool) (t : T) (z : Z) → Knows is t → before (Some t) ≡ false
    → Rule live before (one t) (λ _. z) d (λ s. and_then (expect is s) (λ _ s. Ok (z, s)))
last is t z knows apart = mapped (λ _. z) (expected is t knows apart)

-- ---- a token that stands for a value

-- a value and its token; not every value has one
abbrev pub leaf : {T A : Type 0} → (A → Bool) → (A → T) → Kind T A
leaf good print = record { told = λ a. kept (good a) & word (print a); grabs = λ _ _. false }

pub record Reader {T A : Type 0} (of : Option T → Option A) (good : A → Bool) (print : A → T) : Type 0 where
  pub says : (t : Option T) (a : A) → of t ≡ Some a → (t ≡ Some (print a)) × (good a ≡ true)
  pub yes : (a : A) → good a ≡ true → of (Some (print a)) ≡ Some a

taken_exact : {T A : Type 0} (of : Option T → Option A) (good : A → Bool) (print : A → T) (reader : Reader of good print) (d : ℕ) (s : State T) (o : Option A) → of (first s.rest) ≡ o → (a : A) → good a ≡ true
    → Exact (leaf good print) (λ a. a) d s (taken o s)
taken_exact of good print reader d s (Some a) e other fine =
    let h = reader.says _ a e in
    record {
      answer = record {
        tree = a;
        is = refl;
        found = record {
          split = split_first s.place s.rest (print a) h.0;
          place = step_place s.place s.rest (print a) h.0;
          is = (h.1, tt);
          few = omega arith;
          before = refl;
          only = λ y r is g agrees. let e2 = ap (λ t. of (Some t)) agrees.0 in let e3 = reader.yes y is.0 in let e4 = reader.yes a h.1 in cc;
        };
      };
    }
taken_exact of good print reader d s None e other fine = none_begins (leaf good print) (λ a. a) d s (record { tree = other; left = print other ∷ []; begins = refl; is = (fine, tt); few = omega arith })
    (λ n y r is g same. let e2 = ap of (sym same) ∙ reader.yes y is.0 in let bad : None ≡ Some y = sym e ∙ e2 in absurd (cc))

-- the last argument is some value that has a token
pub tokened : {T A : Type 0} {live : Type 0} {before : Option T → Bool} {d : ℕ} (of : Option T → Option A) (good : A → Bool) (print : A → T) → Reader of good print
    → ((a : A) → good a ≡ true → before (Some (print a)) ≡ false) → (a : A) → good a ≡ true → Rule live before (leaf good print) (λ a. a) d (token of)
tokened {d = d} of good print reader apart other fine = record {
  exact = λ l s b. taken_exact of good print reader d s (of (first s.rest)) refl other fine;
  closes = λ n. record { tree = other; left = print other ∷ []; begins = refl; is = (fine, tt); few = omega arith };
  keeps = λ n x r is g. apart x is.0;
}

-- ---- alternatives

-- a rule without a parser
pub dead : {T X Z : Type 0} {K : Kind T X} {make : X → Z} {d : ℕ} {p : Parser T Z} → ((n : ℕ) → Viable K d n []) → Rule ⊥ never K make d p
dead closes = record { exact = λ l. absurd l; closes = closes; keeps = λ n x r is g. refl }

-- what reads one level further in is as good as it says
abbrev pub Inside : {E : Type 0} → (Type 0 → ℕ → E → Type 0) → ℕ → Option E → Type 0
Inside Good d None = d ≡ 0
Inside Good d (Some e) = (m : ℕ) × (d ≡ m + 1) × Good (Unit {0}) m e

-- an alternative that opens a level with its first token
pub one_deeper : {T X Z W E : Type 0} (Good : Type 0 → ℕ → E → Type 0) (S : Kind T X) (K : Kind T Z) (make : X → Z) → Form (within S) K make → (use_it : Z → W)
    → (body : E → Parser T W) → ((live : Type 0) (m : ℕ) (e : E) → Good live m e → Rule live never S (λ x. use_it (make x)) m (body e))
    → (e : E) → ((m : ℕ) → Good ⊥ m e) → ((n : ℕ) → Viable K 0 n [])
    → (d : ℕ) (inner : Option E) → Inside Good d inner → (s : State T) → ((n : ℕ) (x : X) (r : List T) → Is S n x → first (words S x ++ r) ≡ first s.rest) → Only (within S) K make (first s.rest)
    → Exact K use_it d s (level inner body s)
one_deeper Good S K make form use_it body rule e dead_one closes d None none s begins only =
    let v = (rule ⊥ 0 e (dead_one 0)).closes s.place in
    let deep_is = form.is s.place v.tree v.is in
    subst (λ d. Exact K use_it d s (Err (TooDeep s.place))) (sym none)
    (opens K use_it 0 s (make v.tree) (closes s.place) deep_is (λ r. ap (λ w. first (w ++ r)) (form.tells s.place v.tree v.is) ∙ begins s.place v.tree r v.is)
    (λ n z r is g same few.
    let o = only n z r is g same in
    let high = form.levels_are n o.0 o.1 in
    let low : levels K (make o.0) ≤ 0 = subst (λ z. levels K z ≤ 0) (sym o.2) few in
    omega (arith, high, low)))
one_deeper Good S K make form use_it body rule e0 dead_one closes d (Some e) h s begins only =
    subst (λ d. Exact K use_it d s (body e s)) (sym h.1)
    (formed (within S) K make form use_it (h.0 + 1) s (body e s) only (enter S (λ x. use_it (make x)) h.0 s (body e s) ((rule (Unit {0}) h.0 e h.2).exact tt s refl)))

-- ---- a value that always has a token

abbrev pub plain : {T A : Type 0} → (A → T) → Kind T A
plain print = record { told = λ a. word (print a); grabs = λ _ _. false }

abbrev pub always : {A : Type 0} → A → Bool
always a = true

plain_form : {T A : Type 0} (print : A → T) → Form (leaf always print) (plain print) (λ a. a)
plain_form print = record { tells = λ n a h. refl; levels_are = λ n a h. omega arith; is = λ n a h. tt; grabs = λ n a t h. refl }

pub plainly : {T A : Type 0} {live : Type 0} {before : Option T → Bool} {d : ℕ} (of : Option T → Option A) (print : A → T) → Reader of always print
    → ((a : A) → before (Some (print a)) ≡ false) → A → Rule live before (plain print) (λ a. a) d (token of)
plainly of print reader apart other = shaped (plain print) (λ a. a) (λ a. a) (plain_form print) (λ n a h. (a, (refl, tt), refl)) (tokened of always print reader (λ a good. apart a) other refl)
