-- From an exact parser of whole lists to what it says of trees and faults.
use Rattle.std.proofs.Common.{◌≡◌, ℕ, suc, ◌+◌, ◌≤◌, max, List, [], ◌∷◌, ◌++◌, map, take, length, Option, Some, None, Bool, true, false, if◌then◌else◌, Ok, Err, refl, sym, ap, ◌∙◌, subst, arith, inl, inr, append-nil, length-append}
use Rattle.dpi_grammar.specs.declared.stop.Stop.TheVariants.{Memory, Syntax, TooDeep}
use Rattle.dpi_grammar.specs.Parser.{State, Outcome, Parser, first, and_then, is_there, finish}
use Rattle.dpi_grammar.specs.Faults.{with_end, Begins, IsViable, IsShallow, IsTree, IsUnambiguous, IsParsed, IsRefused, IsTooMuch}
use Rattle.dpi_grammar.proofs.Lists.{Agrees, agrees_self, true_not_false, words_append, right_split, right_join}
use Rattle.dpi_grammar.proofs.Exact.{Kind, words, levels, Is, Viable, Found, Stuck, Refused, TooFar, Answer, Exact, pair}
use Rattle.dpi_grammar.proofs.Forms.{Form, none_begins}
use Rattle.dpi_grammar.proofs.Rules.{Rule, never, seq, shaped}
use Rattle.dpi_grammar.proofs.Many.{absent, absent_exact}

-- the whole list, as a parser begins with it
abbrev pub start : {T : Type 0} → List T → State T
start ts = record { place = 0; rest = ts }

-- a kind of tree that ends with the list
abbrev pub whole : {T X : Type 0} → Kind T X → Kind T X
whole K = record { told = K.told; grabs = λ x t. is_there t }

no_token : {T : Type 0} (t : Option T) → is_there t ≡ false → t ≡ None
no_token None e = refl
no_token (Some t) e = let bad : true ≡ false = e in absurd (cc)

finished : {T Z : Type 0} (z : Z) (d : ℕ) (s : State T) (b : Bool) → is_there (first s.rest) ≡ b → Exact (absent (is_there {A = T})) (λ _. z) d s (if b then Err (Syntax s.place) else Ok (z, s))
finished {T = T} z d s true e = none_begins (absent (is_there {A = T})) (λ _. z) d s (record { tree = tt; left = []; begins = refl; is = tt; few = omega arith })
    (λ n u r is g same. true_not_false (is_there (first r)) (ap is_there same ∙ e) g)
finished {T = T} z d s false e = absent_exact (is_there {A = T}) z d s e

pub at_end : {T Z : Type 0} {live : Type 0} {d : ℕ} (before : Option T → Bool) (z : Z) → before None ≡ false → Rule live before (absent (is_there {A = T})) (λ _. z) d (finish z)
at_end {d = d} before z free = record {
  exact = λ l s b. finished z d s (is_there (first s.rest)) refl;
  closes = λ n. record { tree = tt; left = []; begins = refl; is = tt; few = omega arith };
  keeps = λ n x r is g. ap before (no_token (first r) g) ∙ free;
}

whole_form : {T X : Type 0} (K : Kind T X) → Form (pair K (λ _. absent (is_there {A = T}))) (whole K) (λ p. p.0)
whole_form K = record {
  tells = λ n p h. sym (words_append (K.told p.0).atoms [] ∙ append-nil (words K p.0));
  levels_are = λ n p h. omega arith;
  is = λ n p h. (right_split n (n + length (words K p.0)) (K.told p.0).atoms [] refl h).0;
  grabs = λ n p t h. refl;
}

-- a tree, and then the end
pub to_end : {T X : Type 0} {live : Type 0} {d : ℕ} {p : Parser T X} (K : Kind T X) → ((x : X) → K.grabs x None ≡ false) → Rule live never K (λ x. x) d p
    → Rule live never (whole K) (λ x. x) d (λ s. and_then (p s) finish)
to_end K free k = shaped (whole K) (λ p. p.0) (λ x. x) (whole_form K) (λ n z h. ((z, tt), right_join n _ (K.told z).atoms [] refl h tt, refl))
    (seq (λ x. x) (λ x _. x) finish k (λ x. at_end (K.grabs x) x (free x)))

-- ---- places

take_front : {T : Type 0} (seen rest : List T) → take (length seen) (with_end (seen ++ rest)) ≡ map Some seen
take_front [] rest = refl
take_front (s ∷ seen) rest = ap (λ l. Some s ∷ l) (take_front seen rest)

take_one_more : {T : Type 0} (seen rest : List T) → take (suc (length seen)) (with_end (seen ++ rest)) ≡ map Some seen ++ first rest ∷ []
take_one_more [] [] = refl
take_one_more [] (t ∷ rest) = refl
take_one_more (s ∷ seen) rest = ap (λ l. Some s ∷ l) (take_one_more seen rest)

begins_agrees : {T : Type 0} (us seen rest : List T) → Begins (map Some seen ++ first rest ∷ []) (with_end us) → Agrees us seen rest
begins_agrees [] [] rest b = let e = b.1 in cc
begins_agrees (u ∷ us) [] rest b = let e = b.1 in cc
begins_agrees [] (s ∷ seen) rest b = let e = b.1 in absurd (cc)
begins_agrees {T = T} (u ∷ us) (s ∷ seen) rest b =
    let e = b.1 in
    let same : u ≡ s = cc in
    let after : with_end us ≡ (map Some seen ++ first rest ∷ []) ++ b.0 = cc in
    (same, begins_agrees us seen rest (b.0, after))

agrees_begins : {T : Type 0} (us seen rest : List T) → Agrees us seen rest → Begins (map Some seen ++ first rest ∷ []) (with_end us)
agrees_begins [] [] rest a = ([], ap (λ o. o ∷ []) a)
agrees_begins (u ∷ us) [] rest a = (with_end us, ap (λ o. o ∷ with_end us) a)
agrees_begins [] (s ∷ seen) rest a = absurd a
agrees_begins (u ∷ us) (s ∷ seen) rest a = let m = agrees_begins us seen rest a.1 in (m.0, ap (λ t. Some t ∷ with_end us) a.0 ∙ ap (λ l. Some s ∷ l) m.1)

front_begins : {T : Type 0} (seen left : List T) → Begins (map Some seen) (with_end (seen ++ left))
front_begins [] left = (with_end left, refl)
front_begins (s ∷ seen) left = let m = front_begins seen left in (m.0, ap (λ l. Some s ∷ l) m.1)

-- ---- what a parser of whole lists says

module _ {T X : Type 0} (K : Kind T X) (limit : ℕ) (ts : List T) where
  front : (seen rest : List T) (at : ℕ) → ts ≡ seen ++ rest → at ≡ length seen → take at (with_end ts) ≡ map Some seen
  front seen rest at split e = ap (λ n. take n (with_end ts)) e ∙ ap (λ l. take (length seen) (with_end l)) split ∙ take_front seen rest

  front_more : (seen rest : List T) (at : ℕ) → ts ≡ seen ++ rest → at ≡ length seen → take (at + 1) (with_end ts) ≡ map Some seen ++ first rest ∷ []
  front_more seen rest at split e =
      let n : at + 1 ≡ suc (length seen) = omega (arith, e) in
      ap (λ n. take n (with_end ts)) n ∙ ap (λ l. take (suc (length seen)) (with_end l)) split ∙ take_one_more seen rest

  viable_before : (seen rest : List T) (at : ℕ) → ts ≡ seen ++ rest → at ≡ length seen → Viable (whole K) limit 0 seen → IsViable K.told (IsShallow K.told limit) (take at (with_end ts))
  viable_before seen rest at split e v = (
    v.tree,
    (v.is, v.few),
    subst (λ l. Begins l (with_end (words K v.tree))) (sym (front seen rest at split e))
        (subst (λ w. Begins (map Some seen) (with_end w)) (sym v.begins) (front_begins seen v.left)),
  )

  never_viable : (Few : X → Type 0) (seen rest : List T) (at : ℕ) → at ≡ length seen → Stuck (whole K) Few limit (start ts) seen rest → IsViable K.told (λ x. IsTree K.told x × Few x) (take (at + 1) (with_end ts)) → ⊥
  never_viable Few seen rest at e k v =
      let b = subst (λ l. Begins l (with_end (words K v.0))) (front_more seen rest at k.split e) v.2 in
      k.never v.0 [] v.1.0 v.1.1 refl (subst (λ w. Agrees w seen rest) (sym (append-nil (words K v.0))) (begins_agrees (words K v.0) seen rest b))

  goes_on : (Few : X → Type 0) (seen rest : List T) (at : ℕ) → at ≡ length seen → Stuck (whole K) Few limit (start ts) seen rest → (deep : X) → Is K 0 deep → ((r : List T) → Agrees (words K deep ++ r) seen rest)
      → IsViable K.told (IsTree K.told) (take (at + 1) (with_end ts))
  goes_on Few seen rest at e k deep is goes = (
    deep,
    is,
    subst (λ l. Begins l (with_end (words K deep))) (sym (front_more seen rest at k.split e))
        (agrees_begins (words K deep) seen rest (subst (λ w. Agrees w seen rest) (append-nil (words K deep)) (goes []))),
  )

  within_list : (seen rest : List T) (at : ℕ) → ts ≡ seen ++ rest → at ≤ length seen → at ≤ length ts
  within_list seen rest at split few = omega (arith, few, ap length split, length-append seen rest)

  no_rest : (rest : List T) → is_there (first rest) ≡ false → rest ≡ []
  no_rest [] e = refl
  no_rest (t ∷ rest) e = let bad : true ≡ false = e in absurd (cc)

  parsed : (x : X) (after : State T) → Found (whole K) limit (start ts) x after → IsParsed K.told limit ts x
  parsed x after f =
      let e = no_rest after.rest f.before in
      let prints : ts ≡ words K x = f.split ∙ ap (λ r. words K x ++ r) e ∙ append-nil (words K x) in
      record {
        tree = f.is;
        shallow = f.few;
        tokens = sym prints;
        only = λ y is same. f.only y [] is refl
            (subst (λ w. Agrees (w ++ []) (words K x) after.rest) (sym (same ∙ prints)) (agrees_self (words K x) [] after.rest (sym (ap first e))));
      }

  refused : (at : ℕ) → Refused (whole K) limit (start ts) at → (at ≤ length ts) × IsRefused K.told limit ts at
  refused at m =
      let e : at ≡ length m.seen = omega (arith, m.place) in (
        within_list m.seen m.rest at m.stuck.split (omega (arith, e)),
        record {
          before = viable_before m.seen m.rest at m.stuck.split e m.stuck.viable;
          refused = λ v. never_viable (λ _. Unit {0}) m.seen m.rest at e m.stuck (v.0, (v.1, tt), v.2);
        },
      )

  too_much : (at : ℕ) → TooFar (whole K) limit (start ts) at → (at ≤ length ts) × IsTooMuch K.told limit ts at
  too_much at m =
      let e : at ≡ length m.seen = omega (arith, m.place) in (
        within_list m.seen m.rest at m.stuck.split (omega (arith, e)),
        record {
          before = viable_before m.seen m.rest at m.stuck.split e m.stuck.viable;
          deeper = goes_on _ m.seen m.rest at e m.stuck m.deep m.deep_is m.goes_on;
          refused = never_viable (λ y. levels K y ≤ limit) m.seen m.rest at e m.stuck;
        },
      )

  module _ {p : Parser T X} (k : Rule (Unit {0}) never (whole K) (λ x. x) limit p) where
    at_start : Exact (whole K) (λ x. x) limit (start ts) (p (start ts))
    at_start = k.exact tt (start ts) refl

    pub when_read : (x : X) (after : State T) → p (start ts) ≡ Ok (x, after) → IsParsed K.told limit ts x
    when_read x after read =
        let m = (subst (λ o. Exact (whole K) (λ x. x) limit (start ts) o) read at_start).answer in
        subst (λ x. IsParsed K.told limit ts x) m.is (parsed m.tree after m.found)

    pub when_refused : (at : ℕ) → p (start ts) ≡ Err (Syntax at) → (at ≤ length ts) × IsRefused K.told limit ts at
    when_refused at read = refused at (subst (λ o. Exact (whole K) (λ x. x) limit (start ts) o) read at_start).answer

    pub when_too_deep : (at : ℕ) → p (start ts) ≡ Err (TooDeep at) → (at ≤ length ts) × IsTooMuch K.told limit ts at
    when_too_deep at read = too_much at (subst (λ o. Exact (whole K) (λ x. x) limit (start ts) o) read at_start).answer

-- ---- one tree

no_other : {T X : Type 0} (K : Kind T X) (d : ℕ) (x y : X) → IsTree K.told x → IsTree K.told y → words K x ≡ words K y → levels K x ≤ d → levels K y ≤ d
    → (o : Outcome T X) → Answer (whole K) (λ x. x) d (start (words K x)) o → x ≡ y
no_other K d x y is is2 same few few2 (Ok z) m =
    let f = m.found in
    let e = no_rest K d (words K x) z.1.rest f.before in
    let prints : words K x ≡ words K m.tree = f.split ∙ ap (λ r. words K m.tree ++ r) e ∙ append-nil (words K m.tree) in
    let self = agrees_self (words K m.tree) [] z.1.rest (sym (ap first e)) in
    let one : x ≡ m.tree = f.only x [] is refl (subst (λ w. Agrees (w ++ []) (words K m.tree) z.1.rest) (sym prints) self) in
    let two : y ≡ m.tree = f.only y [] is2 refl (subst (λ w. Agrees (w ++ []) (words K m.tree) z.1.rest) (sym (sym same ∙ prints)) self) in
    one ∙ sym two
no_other K d x y is is2 same few few2 (Err Memory) m = absurd m
no_other K d x y is is2 same few few2 (Err (Syntax at)) m =
    absurd (m.stuck.never x [] is tt refl (subst (λ w. Agrees w m.seen m.rest) (sym (append-nil (words K x) ∙ m.stuck.split)) (agrees_self m.seen m.rest m.rest refl)))
no_other K d x y is is2 same few few2 (Err (TooDeep at)) m =
    absurd (m.stuck.never x [] is few refl (subst (λ w. Agrees w m.seen m.rest) (sym (append-nil (words K x) ∙ m.stuck.split)) (agrees_self m.seen m.rest m.rest refl)))

-- what an exact parser reads at each number of levels has one tree at most
pub unambiguous : {T X : Type 0} (K : Kind T X) (p : ℕ → Parser T X) → ((d : ℕ) → Rule (Unit {0}) never (whole K) (λ x. x) d (p d)) → IsUnambiguous K.told
unambiguous K p k x y is is2 same =
    let d = max (levels K x) (levels K y) in
    no_other K d x y is is2 same (omega arith) (omega arith) (p d (start (words K x))) ((k d).exact tt (start (words K x)) refl).answer
