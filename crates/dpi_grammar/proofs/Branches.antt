-- Parts for as long as one begins, up to one that is the last: what follows an `if`.
use Rattle.std.proofs.Common.{◌≡◌, ℕ, zero, suc, ◌+◌, ◌≤◌, Bool, true, false, not, ◌||◌, ◌⊎◌, List, [], ◌∷◌, ◌++◌, map, length, Option, Some, None, Ok, Err, if◌then◌else◌, refl, sym, ap, ◌∙◌, arith, inl, inr, append_assoc, append-nil, length-append}
use Rattle.std.specs.Prelude.{option_map}
use Rattle.dpi_grammar.specs.declared.stop.Stop.TheVariants.{Memory, Syntax, TooDeep}
use Rattle.dpi_grammar.specs.Told.{Told, ◌&◌, kept, nothing, elses, words_in, IsRight}
use Rattle.dpi_grammar.specs.Parser.{State, Outcome, Parser, and_then, first, is_there, go_on, branches_from, branches}
use Rattle.dpi_grammar.proofs.Lists.{true_not_false, begins_alike, words_append, right_split, right_join}
use Rattle.dpi_grammar.proofs.Exact.{Kind, words, levels, Is, Viable, Found, Answer, Exact, pair, Joins, seq_exact}
use Rattle.dpi_grammar.proofs.Forms.{Form, Only, formed}
use Rattle.dpi_grammar.proofs.Rules.{Rule, never, remade_exact}
use Rattle.dpi_grammar.proofs.Many.{Starts, absent, absent_exact, ends, or_left, or_right, or_both}

module _ {T A B : Type 0} (begins : Option T → Bool) (P : Kind T (A ⊎ B)) where
  abbrev pub tail_told : Bool → List A × Option B → Told T
  tail_told before p = elses before (map (λ a. P.told (inl a)) p.0) (option_map (λ b. P.told (inr b)) p.1)

  -- Where it is open it goes on with what begins a part, and with what its last part, or what stands before it, goes on with.
  abbrev pub tail_grabs : (Option T → Bool) → List A → Option B → Option T → Bool
  tail_grabs prior xs None t = begins t || ends prior (map (λ a. P.grabs (inl a)) xs) t
  tail_grabs prior xs (Some b) t = P.grabs (inr b) t

  -- what stands before goes on with some tokens, and ends in an `if` without an `else` or doesn't
  abbrev pub tail : (Option T → Bool) → Bool → Kind T (List A × Option B)
  tail prior before = record { told = tail_told before; grabs = λ p. tail_grabs prior p.0 p.1 }

  -- of the tokens that begin a part, it goes on with all or with none
  abbrev pub GoesOn : (Option T → Bool) → Bool → Type 0
  GoesOn prior before = (t : Option T) → begins t ≡ true → prior t ≡ before

  -- what makes these parts such
  pub record Parts : Type 0 where
    pub starts : Starts begins P
    pub stop : begins None ≡ false
    pub goes_on : (w : A ⊎ B) → GoesOn (P.grabs w) (P.told w).unended

  not_before : (prior : Option T → Bool) (before : Bool) (t : Option T) → GoesOn prior before → prior t ≡ false → begins t ≡ true → not before ≡ true
  not_before prior true t same free e = true_not_false (prior t) (same t e) free
  not_before prior false t same free e = refl

  kept_prior : (prior : Option T → Bool) (before : Bool) (t : Option T) → GoesOn prior before → not before ≡ true → begins t ≡ true → prior t ≡ false
  kept_prior prior true t same e h = let bad : false ≡ true = e in absurd (cc)
  kept_prior prior false t same e h = same t h

  module _ (parts : Parts) where
    -- behind a last part nothing more belongs to it
    abbrev rest_told : A ⊎ B → List A × Option B → Told T
    rest_told (inl a) p = tail_told (P.told (inl a)).unended p
    rest_told (inr b) ([], None) = nothing
    rest_told (inr b) ([], Some c) = kept false
    rest_told (inr b) (a ∷ xs, l) = kept false

    abbrev rest_grabs : A ⊎ B → List A × Option B → Option T → Bool
    rest_grabs (inl a) p = tail_grabs (P.grabs (inl a)) p.0 p.1
    rest_grabs (inr b) p = P.grabs (inr b)

    abbrev rest : A ⊎ B → Kind T (List A × Option B)
    rest w = record { told = rest_told w; grabs = rest_grabs w }

    abbrev joined : (A ⊎ B) × (List A × Option B) → List A × Option B
    joined (inl a, p) = (a ∷ p.0, p.1)
    joined (inr b, p) = ([], Some b)

    part_starts : (n : ℕ) (w : A ⊎ B) (b : Told T) (r : List T) → IsRight n ((P.told w).atoms ++ b.atoms) → begins (first (words_in ((P.told w).atoms ++ b.atoms) ++ r)) ≡ true
    part_starts n w b r h =
        let s = right_split n (n + length (words P w)) (P.told w).atoms b.atoms refl h in
        ap (λ l. begins (first (l ++ r))) (words_append (P.told w).atoms b.atoms) ∙ ap (λ l. begins (first l)) (append_assoc (words P w) (words_in b.atoms) r) ∙ parts.starts n w (words_in b.atoms ++ r) s.0

    tail_keeps_by : (prior : Option T → Bool) (before : Bool) → GoesOn prior before → (xs : List A) (l : Option B) (n : ℕ) (r : List T) → Is (tail prior before) n (xs, l) → tail_grabs prior xs l (first r) ≡ false
        → prior (first (words (tail prior before) (xs, l) ++ r)) ≡ false
    tail_keeps_by prior before same [] None n r h g = or_right (begins (first r)) (prior (first r)) g
    tail_keeps_by prior before same [] (Some b) n r h g = kept_prior prior before _ same h.0 (parts.starts n (inr b) r h.1)
    tail_keeps_by prior before same (a ∷ xs) l n r h g =
        kept_prior prior before _ same h.0 (part_starts n (inl a) (elses (P.told (inl a)).unended (map (λ a. P.told (inl a)) xs) (option_map (λ b. P.told (inr b)) l)) r h.1)

    rest_joins : Joins P rest
    rest_joins (inl a) m p r h g = tail_keeps_by (P.grabs (inl a)) (P.told (inl a)).unended (parts.goes_on (inl a)) p.0 p.1 m r h g
    rest_joins (inr b) m ([], None) r h g = g
    rest_joins (inr b) m ([], Some c) r h g = let bad : false ≡ true = h.0 in absurd (cc)
    rest_joins (inr b) m (a ∷ xs, l) r h g = let bad : false ≡ true = h.0 in absurd (cc)

    -- where it is open it goes on with what begins a part, as does a last part that is open
    unended_by : (prior : Option T → Bool) (before : Bool) (xs : List A) (l : Option B) (t : Option T) → begins t ≡ true → tail_grabs prior xs l t ≡ (tail_told before (xs, l)).unended
    unended_by prior before [] None t e = ap (λ b. b || prior t) e
    unended_by prior before [] (Some b) t e = parts.goes_on (inr b) t e
    unended_by prior before (a ∷ xs) None t e = unended_by (P.grabs (inl a)) (P.told (inl a)).unended xs None t e
    unended_by prior before (a ∷ xs) (Some b) t e = unended_by (P.grabs (inl a)) (P.told (inl a)).unended xs (Some b) t e

    pub tail_goes_on : (prior : Option T → Bool) (before : Bool) (p : List A × Option B) → GoesOn ((tail prior before).grabs p) ((tail prior before).told p).unended
    tail_goes_on prior before p t e = unended_by prior before p.0 p.1 t e

    module _ (prior : Option T → Bool) (before : Bool) where
      some_tells : (n : ℕ) (p : (A ⊎ B) × (List A × Option B)) → Is (pair P rest) n p → words (tail prior before) (joined p) ≡ words (pair P rest) p
      some_tells n (inl a, p) h = refl
      some_tells n (inr b, ([], None)) h = sym (words_append (P.told (inr b)).atoms [] ∙ append-nil (words_in (P.told (inr b)).atoms))
      some_tells n (inr b, ([], Some c)) h = let r = right_split n _ (P.told (inr b)).atoms (kept false).atoms refl h in let bad : false ≡ true = r.1.0 in absurd (cc)
      some_tells n (inr b, (a ∷ xs, l)) h = let r = right_split n _ (P.told (inr b)).atoms (kept false).atoms refl h in let bad : false ≡ true = r.1.0 in absurd (cc)

      some_levels : (n : ℕ) (p : (A ⊎ B) × (List A × Option B)) → Is (pair P rest) n p → levels (tail prior before) (joined p) ≡ levels (pair P rest) p
      some_levels n (inl a, p) h = omega arith
      some_levels n (inr b, ([], None)) h = omega arith
      some_levels n (inr b, ([], Some c)) h = omega arith
      some_levels n (inr b, (a ∷ xs, l)) h = omega arith

      some_is : not before ≡ true → (n : ℕ) (w : A ⊎ B) (xs : List A) (l : Option B) → Is (pair P rest) n (w, (xs, l)) → Is (tail prior before) n (joined (w, (xs, l)))
      some_is ok n (inl a) xs l h = (ok, h)
      some_is ok n (inr b) [] None h = (ok, (right_split n _ (P.told (inr b)).atoms [] refl h).0)
      some_is ok n (inr b) [] (Some c) h = let r = right_split n _ (P.told (inr b)).atoms (kept false).atoms refl h in let bad : false ≡ true = r.1.0 in absurd (cc)
      some_is ok n (inr b) (a ∷ xs) l h = let r = right_split n _ (P.told (inr b)).atoms (kept false).atoms refl h in let bad : false ≡ true = r.1.0 in absurd (cc)

      some_grabs : (w : A ⊎ B) (xs : List A) (l : Option B) (t : Option T) → (tail prior before).grabs (joined (w, (xs, l))) t ≡ rest_grabs w (xs, l) t
      some_grabs (inl a) xs None t = refl
      some_grabs (inl a) xs (Some b) t = refl
      some_grabs (inr b) xs l t = refl

      some_form : not before ≡ true → Form (pair P rest) (tail prior before) joined
      some_form ok = record { tells = some_tells; levels_are = some_levels; is = λ n p h. some_is ok n p.0 p.1.0 p.1.1 h; grabs = λ n p t h. some_grabs p.0 p.1.0 p.1.1 t }

      some_only : (t : Option T) → begins t ≡ true → Only (pair P rest) (tail prior before) joined t
      some_only t e n ([], None) r h g same = true_not_false (begins (first r)) (ap begins same ∙ e) (or_left _ _ g)
      some_only t e n ([], Some b) r h g same = ((inr b, ([], None)), right_join n _ (P.told (inr b)).atoms [] refl h.1 tt, refl)
      some_only t e n (a ∷ xs, l) r h g same = ((inl a, (xs, l)), h.1, refl)

      empty_form : Form (absent (λ t. begins t || prior t)) (tail prior before) (λ (_ : Unit {0}). ([], None))
      empty_form = record { tells = λ n p h. refl; levels_are = λ n p h. refl; is = λ n p h. tt; grabs = λ n p t h. refl }

      empty_only : (t : Option T) → begins t ≡ false → Only (absent (λ t. begins t || prior t)) (tail prior before) (λ (_ : Unit {0}). ([], None)) t
      empty_only t e n ([], None) r h g same = (tt, tt, refl)
      empty_only t e n ([], Some b) r h g same = true_not_false (begins t) (ap begins (sym same) ∙ parts.starts n (inr b) r h.1) e
      empty_only t e n (a ∷ xs, l) r h g same = true_not_false (begins t) (ap begins (sym same) ∙ part_starts n (inl a) (elses (P.told (inl a)).unended (map (λ a. P.told (inl a)) xs) (option_map (λ b. P.told (inr b)) l)) r h.1) e

      tail_closes : (d n : ℕ) → Viable (tail prior before) d n []
      tail_closes d n = record { tree = ([], None); left = []; begins = refl; is = tt; few = omega arith }

    rest_closes : (w : A ⊎ B) (d n : ℕ) → Viable (rest w) d n []
    rest_closes (inl a) d n = record { tree = ([], None); left = []; begins = refl; is = tt; few = omega arith }
    rest_closes (inr b) d n = record { tree = ([], None); left = []; begins = refl; is = tt; few = omega arith }

    has_words : (w : List T) → begins (first (w ++ [])) ≡ true → 1 ≤ length w
    has_words [] h = true_not_false (begins None) h parts.stop
    has_words (t ∷ w) h = omega arith

    abbrev found_with : List A → List A × Option B → List A × Option B
    found_with found p = (found ++ p.0, p.1)

    abbrev later_value : List A → A ⊎ B → List A × Option B → List A × Option B
    later_value found (inl a) p = found_with (found ++ a ∷ []) p
    later_value found (inr b) p = (found, Some b)

    module _ (part : Parser T (A ⊎ B)) (d : ℕ) (exact : (s : State T) → Exact P (λ w. w) d s (part s)) where
      From : ℕ → Type 0
      From n = (prior : Option T → Bool) (before : Bool) → GoesOn prior before → (found : List A) (s : State T) → length s.rest ≤ n → prior (first s.rest) ≡ false
          → Exact (tail prior before) (found_with found) d s (branches_from begins part n found s)

      shorter : (n : ℕ) (s : State T) (w : A ⊎ B) (s1 : State T) → Found P d s w s1 → length s.rest ≤ suc n → length s1.rest ≤ n
      shorter n s w s1 f h = omega (arith, has_words (words P w) (parts.starts s.place w [] f.is), ap length f.split, length-append (words P w) s1.rest)

      stopped : (prior : Option T → Bool) (before : Bool) (found : List A) (s : State T) → begins (first s.rest) ≡ false → prior (first s.rest) ≡ false → Exact (tail prior before) (found_with found) d s (Ok ((found, None), s))
      stopped prior before found s stop free =
          formed (absent (λ t. begins t || prior t)) (tail prior before) (λ _. ([], None)) (empty_form prior before) (found_with found) d s _ (empty_only prior before _ stop)
          (remade_exact (absent (λ t. begins t || prior t)) (λ _. (found, None)) (λ _. found_with found ([], None)) d s _ (λ _. ap (λ l. let p : List A × Option B = (l, None) in p) (append-nil found))
          (absent_exact (λ t. begins t || prior t) (found, None) d s (or_both (begins (first s.rest)) (prior (first s.rest)) stop free)))

      -- the value, in two ways
      values_same : (found : List A) (p : (A ⊎ B) × (List A × Option B)) → found_with found (joined p) ≡ later_value found p.0 p.1
      values_same found (inl a, p) = ap (λ l. let q : List A × Option B = (l, p.1) in q) (sym (append_assoc found (a ∷ []) p.0))
      values_same found (inr b, p) = ap (λ l. let q : List A × Option B = (l, Some b) in q) (append-nil found)

      last_only : (b : B) (t : Option T) → Only (absent (P.grabs (inr b))) (rest (inr b)) (λ (_ : Unit {0}). ([], None)) t
      last_only b t n ([], None) r h g same = (tt, tt, refl)
      last_only b t n ([], Some c) r h g same = let bad : false ≡ true = h.0 in absurd (cc)
      last_only b t n (a ∷ xs, l) r h g same = let bad : false ≡ true = h.0 in absurd (cc)

      ended_exact : (found : List A) (b : B) (s : State T) → P.grabs (inr b) (first s.rest) ≡ false → Exact (rest (inr b)) (later_value found (inr b)) d s (Ok ((found, Some b), s))
      ended_exact found b s free =
          formed (absent (P.grabs (inr b))) (rest (inr b)) (λ _. ([], None)) (record { tells = λ n p h. refl; levels_are = λ n p h. refl; is = λ n p h. tt; grabs = λ n p t h. refl }) (later_value found (inr b)) d s _
          (last_only b _) (absent_exact (P.grabs (inr b)) (found, Some b) d s free)

      next_exact : (n : ℕ) → From n → (found : List A) (s : State T) → length s.rest ≤ suc n → (w : A ⊎ B) (s1 : State T) → Found P d s w s1 → Exact (rest w) (later_value found w) d s1 (go_on (branches_from begins part n) found w s1)
      unfolding From
      next_exact n more found s h (inl a) s1 f = more (P.grabs (inl a)) (P.told (inl a)).unended (parts.goes_on (inl a)) (found ++ a ∷ []) s1 (shorter n s (inl a) s1 f h) f.before
      next_exact n more found s h (inr b) s1 f = ended_exact found b s1 f.before

      from_by : (n : ℕ) (prior : Option T → Bool) (before : Bool) → GoesOn prior before → (found : List A) (s : State T) (b : Bool) → begins (first s.rest) ≡ b → length s.rest ≤ suc n → prior (first s.rest) ≡ false → From n
          → Exact (tail prior before) (found_with found) d s (if b then and_then (part s) (go_on (branches_from begins part n) found) else Ok ((found, None), s))
      from_by n prior before same found s false e h free more = stopped prior before found s e free
      from_by n prior before same found s true e h free more =
          formed (pair P rest) (tail prior before) joined (some_form prior before (not_before prior before _ same free e)) (found_with found) d s _ (some_only prior before _ e)
          (remade_exact (pair P rest) (λ p. later_value found p.0 p.1) (λ p. found_with found (joined p)) d s _ (values_same found)
          (seq_exact P rest rest_joins (λ w. w) (later_value found) d s (part s) (go_on (branches_from begins part n) found) (λ w m. rest_closes w d m) (exact s) (next_exact n more found s h)))

      no_rest : (l : List T) → length l ≤ 0 → first l ≡ None
      no_rest [] h = refl
      no_rest (t ∷ l) h = absurd (omega (arith, h))

      from : (n : ℕ) → From n
      unfolding From branches_from
      from zero prior before same found s h free = stopped prior before found s (ap begins (no_rest s.rest h) ∙ parts.stop) free
      from (suc n) prior before same found s h free = from_by n prior before same found s (begins (first s.rest)) refl h free (from n)

      pub branches_exact : (prior : Option T → Bool) (before : Bool) → GoesOn prior before → (s : State T) → prior (first s.rest) ≡ false → Exact (tail prior before) (found_with []) d s (branches begins part s)
      unfolding From
      branches_exact prior before same s free = from (length s.rest) prior before same [] s (omega arith) free

-- the parts behind what ends in an `if` without an `else`, or doesn't
pub branched : {T A B : Type 0} {live : Type 0} {P : Kind T (A ⊎ B)} {d : ℕ} {part : Parser T (A ⊎ B)} (begins : Option T → Bool) → Parts begins P
    → (prior : Option T → Bool) (before : Bool) → GoesOn begins P prior before
    → Rule live never P (λ w. w) d part → Rule live prior (tail begins P prior before) (λ p. p) d (branches begins part)
branched {P = P} {d = d} {part = part} begins parts prior before same k = record {
  exact = λ l s b. branches_exact begins P parts part d (λ s. k.exact l s refl) prior before same s b;
  closes = tail_closes begins P parts prior before d;
  keeps = λ n p r h g. tail_keeps_by begins P parts prior before same p.0 p.1 n r h g;
}

-- ---- trees that don't begin with some tokens

-- the trees of a kind that don't begin with a token that passes the test, as the statement behind an `else` that isn't an `if`
abbrev pub other_than : {T X : Type 0} → (Option T → Bool) → Kind T X → Kind T X
other_than test K = record { told = λ x. kept (not (test (first (words K x)))) & K.told x; grabs = K.grabs }

module _ {T X : Type 0} (test : Option T → Bool) (K : Kind T X) (some : (n : ℕ) (x : X) → Is K n x → is_there (first (words K x)) ≡ true) where
  first_word : (w r : List T) → is_there (first w) ≡ true → first (w ++ r) ≡ first w
  first_word [] r e = absurd (cc)
  first_word (t ∷ w) r e = refl

  not_so : (b : Bool) → b ≡ false → not b ≡ true
  not_so true e = sym e
  not_so false e = refl

  -- a tree that begins as the tokens do
  fine : (n : ℕ) (x : X) (r : List T) (t : Option T) → test t ≡ false → Is K n x → first (words K x ++ r) ≡ t → not (test (first (words K x))) ≡ true
  fine n x r t off is same = not_so _ (ap test (sym (first_word (words K x) r (some n x is)) ∙ same) ∙ off)

  viable_by : (d n : ℕ) (seen rest all : List T) → Viable (other_than test K) d n [] → test (first all) ≡ false → all ≡ seen ++ rest → Viable K d n seen → Viable (other_than test K) d n seen
  viable_by d n [] rest all shortest off split v = shortest
  viable_by d n (t ∷ seen) rest all shortest off split v = record {
    tree = v.tree;
    left = v.left;
    begins = v.begins;
    is = (fine n v.tree [] (first all) off v.is (ap (λ w. first (w ++ [])) v.begins ∙ sym (ap first split)), v.is);
    few = omega (arith, v.few);
  }

  kept_by : {Z : Type 0} (make : X → Z) (d : ℕ) (s : State T) (o : Outcome T Z) → Viable (other_than test K) d s.place [] → test (first s.rest) ≡ false → Answer K make d s o
      → Answer (other_than test K) make d s o
  kept_by make d s (Ok p) shortest off m = record {
    tree = m.tree;
    is = m.is;
    found = record {
      split = m.found.split;
      place = m.found.place;
      is = (fine s.place m.tree p.1.rest (first s.rest) off m.found.is (sym (ap first m.found.split)), m.found.is);
      few = omega (arith, m.found.few);
      before = m.found.before;
      only = λ y r is g agrees. m.found.only y r is.1 g agrees;
    };
  }
  kept_by make d s (Err Memory) shortest off m = m
  kept_by make d s (Err (Syntax at)) shortest off m = record {
    seen = m.seen;
    rest = m.rest;
    place = m.place;
    stuck = record {
      split = m.stuck.split;
      viable = viable_by d s.place m.seen m.rest s.rest shortest off m.stuck.split m.stuck.viable;
      never = λ y r is few g agrees. m.stuck.never y r is.1 tt g agrees;
    };
  }
  kept_by make d s (Err (TooDeep at)) shortest off m = record {
    seen = m.seen;
    rest = m.rest;
    place = m.place;
    stuck = record {
      split = m.stuck.split;
      viable = viable_by d s.place m.seen m.rest s.rest shortest off m.stuck.split m.stuck.viable;
      never = λ y r is few g agrees. m.stuck.never y r is.1 (omega (arith, few)) g agrees;
    };
    deep = m.deep;
    deep_is = (fine s.place m.deep [] (first s.rest) off m.deep_is (begins_alike _ m.seen m.rest (m.goes_on []) ∙ sym (ap first m.stuck.split)), m.deep_is);
    goes_on = m.goes_on;
  }

  -- where no such token comes next, a parser of all trees is one of these
  pub kept_exact : {Z : Type 0} (make : X → Z) (d : ℕ) (s : State T) (o : Outcome T Z) → Viable (other_than test K) d s.place [] → test (first s.rest) ≡ false → Exact K make d s o
      → Exact (other_than test K) make d s o
  kept_exact make d s o shortest off m = record { answer = kept_by make d s o shortest off m.answer }
