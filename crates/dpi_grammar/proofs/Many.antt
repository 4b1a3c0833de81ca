-- Parts that may be absent, and lists.
use Rattle.std.proofs.Common.{◌≡◌, ℕ, zero, suc, ◌+◌, ◌≤◌, max, Bool, true, false, ◌||◌, List, [], ◌∷◌, ◌++◌, map, length, Option, Some, None, Ok, if◌then◌else◌, refl, sym, ap, ◌∙◌, subst, arith, append_assoc, append-nil, length-append}
use Rattle.std.specs.Prelude.{option_map}
use Rattle.dpi_grammar.specs.Told.{Told, ◌&◌, word, each, between, some_between, behind_each, words_in, IsRight}
use Rattle.dpi_grammar.specs.Told as told
use Rattle.dpi_grammar.specs.Parser.{State, Parser, and_then, first, expect, many_from, more, optional, optional_by, separated, listed, or_empty}
use Rattle.dpi_grammar.proofs.Lists.{true_not_false, words_append, right_split}
use Rattle.dpi_grammar.proofs.Exact.{Kind, words, Is, Viable, Found, Exact, pair, Joins, seq_exact}
use Rattle.dpi_grammar.proofs.Forms.{Form, told_form, Only, formed}
use Rattle.dpi_grammar.proofs.Rules.{Rule, never, seq, mapped, mapped_exact, remade_exact, put, shaped, behind, Knows, token_then}

pub or_left : (a b : Bool) → (a || b) ≡ false → a ≡ false
or_left true b h = h
or_left false b h = refl

pub or_right : (a b : Bool) → (a || b) ≡ false → b ≡ false
or_right true b h = let e : true ≡ false = h in absurd (cc)
or_right false b h = h

pub or_both : (a b : Bool) → a ≡ false → b ≡ false → (a || b) ≡ false
or_both true b p q = p
or_both false b p q = q

-- ---- no part

-- nothing, where none of these tokens comes next
abbrev pub absent : {T : Type 0} → (Option T → Bool) → Kind T (Unit {0})
absent grabs = record { told = λ _. told.nothing; grabs = λ _. grabs }

pub absent_exact : {T Z : Type 0} (grabs : Option T → Bool) (z : Z) (d : ℕ) (s : State T) → grabs (first s.rest) ≡ false → Exact (absent grabs) (λ _. z) d s (Ok (z, s))
absent_exact grabs z d s b = record {
  answer = record {
    tree = tt;
    is = refl;
    found = record { split = refl; place = omega arith; is = tt; few = omega arith; before = b; only = λ y r is g agrees. refl };
  };
}

pub done : {T Z : Type 0} {live : Type 0} {d : ℕ} (before : Option T → Bool) (z : Z) → Rule live before (absent before) (λ _. z) d (λ s. Ok (z, s))
done {d = d} before z = record {
  exact = λ l s b. absent_exact before z d s b;
  closes = λ n. record { tree = tt; left = []; begins = refl; is = tt; few = omega arith };
  keeps = λ n x r is g. g;
}

-- ---- a part that may be absent

abbrev pub option_told : {T X : Type 0} → Kind T X → Option X → Told T
option_told K o = told.maybe (option_map K.told o)

abbrev pub option_grabs : {T X : Type 0} → (Option T → Bool) → Kind T X → (Option T → Bool) → Option X → Option T → Bool
option_grabs begins K prior None t = begins t || prior t
option_grabs begins K prior (Some x) t = K.grabs x t

abbrev pub option : {T X : Type 0} → (Option T → Bool) → Kind T X → (Option T → Bool) → Kind T (Option X)
option begins K prior = record { told = option_told K; grabs = option_grabs begins K prior }

-- each tree begins with such a token
abbrev pub Starts : {T X : Type 0} → (Option T → Bool) → Kind T X → Type 0
Starts begins K = (n : ℕ) (x : _) (r : List _) → Is K n x → begins (first (words K x ++ r)) ≡ true

-- no token passes both tests
abbrev pub Apart : {T : Type 0} → (Option T → Bool) → (Option T → Bool) → Type 0
Apart begins prior = (t : Option _) → begins t ≡ true → prior t ≡ false

pub starts_apart : {T X : Type 0} (begins before : Option T → Bool) (K : Kind T X) → Starts begins K → Apart begins before
    → (n : ℕ) (x : X) (r : List T) → Is K n x → K.grabs x (first r) ≡ false → before (first (words K x ++ r)) ≡ false
starts_apart begins before K starts apart n x r is g = apart _ (starts n x r is)

-- a rule whose trees begin with one of these tokens, behind something that none of these goes on with
pub put_apart : {T X Z : Type 0} {live : Type 0} {K : Kind T X} {make : X → Z} {d : ℕ} {p : Parser T Z} (begins before : Option T → Bool) → Starts begins K → Apart begins before
    → Rule live never K make d p → Rule live before K make d p
put_apart {K = K} begins before starts apart k = put before (starts_apart begins before K starts apart) k

option_form : {T X : Type 0} (begins prior : Option T → Bool) (K : Kind T X) → Form K (option begins K prior) Some
option_form begins prior K = told_form K (option begins K prior) Some (λ x. refl) (λ x t. refl)

pub none_form : {T X : Type 0} (begins prior : Option T → Bool) (K : Kind T X) → Form (absent (λ t. begins t || prior t)) (option begins K prior) (λ (_ : Unit {0}). None)
none_form begins prior K = told_form (absent (λ t. begins t || prior t)) (option begins K prior) (λ _. None) (λ x. refl) (λ x t. refl)

some_only : {T X : Type 0} (begins prior : Option T → Bool) (K : Kind T X) (t : Option T) → begins t ≡ true → Only K (option begins K prior) Some t
some_only begins prior K t e n None r is g same = true_not_false (begins (first r)) (ap begins same ∙ e) (or_left _ _ g)
some_only begins prior K t e n (Some x) r is g same = (x, is, refl)

pub none_only : {T X : Type 0} (begins prior : Option T → Bool) (K : Kind T X) → Starts begins K → (t : Option T) → begins t ≡ false → Only (absent (λ t. begins t || prior t)) (option begins K prior) (λ (_ : Unit {0}). None) t
none_only begins prior K starts t e n None r is g same = (tt, tt, refl)
none_only begins prior K starts t e n (Some x) r is g same = true_not_false (begins t) (ap begins (sym same) ∙ starts n x r is) e

pub optional_exact : {T X : Type 0} (begins prior : Option T → Bool) (K : Kind T X) → Starts begins K → (d : ℕ) (p : Parser T X) (s : State T) (b : Bool) → begins (first s.rest) ≡ b → prior (first s.rest) ≡ false
    → Exact K (λ x. x) d s (p s) → Exact (option begins K prior) (λ o. o) d s (optional_by b p s)
optional_exact begins prior K starts d p s true e free exact =
    formed K (option begins K prior) Some (option_form begins prior K) (λ o. o) d s _ (some_only begins prior K _ e) (mapped_exact K (λ x. x) Some d s (p s) exact)
optional_exact begins prior K starts d p s false e free exact =
    formed (absent (λ t. begins t || prior t)) (option begins K prior) (λ _. None) (none_form begins prior K) (λ o. o) d s _ (none_only begins prior K starts _ e)
    (absent_exact (λ t. begins t || prior t) None d s (or_both (begins (first s.rest)) (prior (first s.rest)) e free))

pub option_keeps : {T X : Type 0} (begins prior : Option T → Bool) (K : Kind T X) → Starts begins K → Apart begins prior
    → (n : ℕ) (x : Option X) (r : List T) → Is (option begins K prior) n x → option_grabs begins K prior x (first r) ≡ false → prior (first (words (option begins K prior) x ++ r)) ≡ false
option_keeps begins prior K starts apart n None r is g = or_right (begins (first r)) (prior (first r)) g
option_keeps begins prior K starts apart n (Some x) r is g = apart _ (starts n x r is)

pub perhaps : {T X : Type 0} {live : Type 0} {K : Kind T X} {d : ℕ} {p : Parser T X} (begins prior : Option T → Bool) → Starts begins K → Apart begins prior
    → Rule live never K (λ x. x) d p → Rule live prior (option begins K prior) (λ o. o) d (optional begins p)
perhaps {K = K} {d = d} {p = p} begins prior starts apart k = record {
  exact = λ l s b. optional_exact begins prior K starts d p s (begins (first s.rest)) refl b (k.exact l s refl);
  closes = λ n. record { tree = None; left = []; begins = refl; is = tt; few = omega arith };
  keeps = option_keeps begins prior K starts apart;
}

-- ---- items for as long as one begins

-- what the last item would have gone on with, or what stands before a list that has none
abbrev pub ends : {T : Type 0} → (Option T → Bool) → List (Option T → Bool) → Option T → Bool
ends prior [] t = prior t
ends prior (g ∷ gs) t = ends g gs t

abbrev pub list : {T X : Type 0} → (Option T → Bool) → Kind T X → (Option T → Bool) → Kind T (List X)
list begins K prior = record { told = λ xs. each (map K.told xs); grabs = λ xs t. begins t || ends prior (map K.grabs xs) t }

pub record Repeats {T X : Type 0} (begins : Option T → Bool) (K : Kind T X) : Type 0 where
  pub starts : Starts begins K
  pub next : (x : X) → Apart begins (K.grabs x)
  pub at_end : begins None ≡ false

module _ {T X : Type 0} (begins : Option T → Bool) (K : Kind T X) (repeats : Repeats begins K) where
  pub list_starts : (prior : Option T → Bool) (n : ℕ) (x : X) (xs : List X) (r : List T) → Is (list begins K prior) n (x ∷ xs) → begins (first (words (list begins K prior) (x ∷ xs) ++ r)) ≡ true
  list_starts prior n x xs r is =
      let h = right_split n (n + length (words K x)) (K.told x).atoms (each (map K.told xs)).atoms refl is in
      subst (λ w. begins (first w) ≡ true) (sym (ap (λ w. w ++ r) (words_append (K.told x).atoms (each (map K.told xs)).atoms) ∙ append_assoc (words K x) (words (list begins K prior) xs) r))
      (repeats.starts n x (words (list begins K prior) xs ++ r) h.0)

  pub list_keeps : (prior : Option T → Bool) → Apart begins prior
      → (n : ℕ) (xs : List X) (r : List T) → Is (list begins K prior) n xs → (list begins K prior).grabs xs (first r) ≡ false → prior (first (words (list begins K prior) xs ++ r)) ≡ false
  list_keeps prior apart n [] r is g = or_right (begins (first r)) (prior (first r)) g
  list_keeps prior apart n (x ∷ xs) r is g = apart _ (list_starts prior n x xs r is)

  none_of : (prior : Option T → Bool) (d n : ℕ) → Viable (list begins K prior) d n []
  none_of prior d n = record { tree = []; left = []; begins = refl; is = tt; few = omega arith }

  pub empty_form : (prior : Option T → Bool) → Form (absent (λ t. begins t || prior t)) (list begins K prior) (λ (_ : Unit {0}). [])
  empty_form prior = told_form (absent (λ t. begins t || prior t)) (list begins K prior) (λ _. []) (λ x. refl) (λ x t. refl)

  pub empty_only : (prior : Option T → Bool) (t : Option T) → begins t ≡ false → Only (absent (λ t. begins t || prior t)) (list begins K prior) (λ (_ : Unit {0}). []) t
  empty_only prior t e n [] r is g same = (tt, tt, refl)
  empty_only prior t e n (x ∷ xs) r is g same = true_not_false (begins t) (ap begins (sym same) ∙ list_starts prior n x xs r is) e

  one_form : (prior : Option T → Bool) → Form (pair K (λ x. list begins K (K.grabs x))) (list begins K prior) (λ p. p.0 ∷ p.1)
  one_form prior = told_form (pair K (λ x. list begins K (K.grabs x))) (list begins K prior) (λ p. p.0 ∷ p.1) (λ p. refl) (λ p t. refl)

  one_only : (prior : Option T → Bool) (t : Option T) → begins t ≡ true → Only (pair K (λ x. list begins K (K.grabs x))) (list begins K prior) (λ (p : X × List X). p.0 ∷ p.1) t
  one_only prior t go n [] r is g e = true_not_false (begins t) go (ap begins (sym e) ∙ or_left _ _ g)
  one_only prior t go n (x ∷ xs) r is g e = ((x, xs), is, refl)

  list_joins : Joins K (λ x. list begins K (K.grabs x))
  list_joins x m xs r is g = list_keeps (K.grabs x) (repeats.next x) m xs r is g

  has_words : (w : List T) → begins (first (w ++ [])) ≡ true → 1 ≤ length w
  has_words [] h = true_not_false (begins None) h repeats.at_end
  has_words (t ∷ w) h = omega arith

  shorter : (d n : ℕ) (s : State T) (x : X) (s1 : State T) → Found K d s x s1 → length s.rest ≤ suc n → length s1.rest ≤ n
  shorter d n s x s1 f h = omega (arith, has_words (words K x) (repeats.starts s.place x [] f.is), ap length f.split, length-append (words K x) s1.rest)

  module _ (item : Parser T X) (d : ℕ) (exact : (s : State T) → Exact K (λ x. x) d s (item s)) where
    From : ℕ → Type 0
    From n = (prior : Option T → Bool) (found : List X) (s : State T) → length s.rest ≤ n → prior (first s.rest) ≡ false
        → Exact (list begins K prior) (λ xs. found ++ xs) d s (many_from begins item n found s)

    stopped : (prior : Option T → Bool) (found : List X) (s : State T) → begins (first s.rest) ≡ false → prior (first s.rest) ≡ false
        → Exact (list begins K prior) (λ xs. found ++ xs) d s (Ok (found, s))
    stopped prior found s stop free =
        formed (absent (λ t. begins t || prior t)) (list begins K prior) (λ _. []) (empty_form prior) (λ xs. found ++ xs) d s _ (empty_only prior _ stop)
        (remade_exact (absent (λ t. begins t || prior t)) (λ _. found) (λ _. found ++ []) d s _ (λ _. append-nil found)
        (absent_exact (λ t. begins t || prior t) found d s (or_both (begins (first s.rest)) (prior (first s.rest)) stop free)))

    from_by : (n : ℕ) (prior : Option T → Bool) (found : List X) (s : State T) (b : Bool) → begins (first s.rest) ≡ b → length s.rest ≤ suc n → prior (first s.rest) ≡ false
        → From n → Exact (list begins K prior) (λ xs. found ++ xs) d s (if b then and_then (item s) (λ x. many_from begins item n (found ++ x ∷ [])) else Ok (found, s))
    unfolding From
    from_by n prior found s false e h free more = stopped prior found s e free
    from_by n prior found s true e h free more =
        formed _ (list begins K prior) _ (one_form prior) (λ xs. found ++ xs) d s _ (one_only prior (first s.rest) e)
        (remade_exact _ (λ p. (found ++ p.0 ∷ []) ++ p.1) _ d s _ (λ p. sym (append_assoc found (p.0 ∷ []) p.1))
        (seq_exact K (λ x. list begins K (K.grabs x)) list_joins (λ x. x) (λ x xs. (found ++ x ∷ []) ++ xs) d s (item s) (λ x. many_from begins item n (found ++ x ∷ []))
        (λ x m. none_of (K.grabs x) d m) (exact s)
        (λ x s1 f. more (K.grabs x) (found ++ x ∷ []) s1 (shorter d n s x s1 f h) f.before)))

    empty_rest : (n : ℕ) (rest : List T) → length rest ≤ 0 → first rest ≡ None
    empty_rest n [] h = refl
    empty_rest n (t ∷ rest) h = absurd (omega (arith, h))

    from : (n : ℕ) → From n
    unfolding From many_from
    from zero prior found s h free = stopped prior found s (ap begins (empty_rest 0 s.rest h) ∙ repeats.at_end) free
    from (suc n) prior found s h free = from_by n prior found s (begins (first s.rest)) refl h free (from n)

    pub more_exact : (prior : Option T → Bool) (found : List X) (s : State T) → prior (first s.rest) ≡ false
        → Exact (list begins K prior) (λ xs. found ++ xs) d s (more begins item found s)
    unfolding From
    more_exact prior found s free = from (length s.rest) prior found s (omega arith) free

-- items behind those found so far
pub many : {T X : Type 0} {live : Type 0} {K : Kind T X} {d : ℕ} {item : Parser T X} (begins prior : Option T → Bool) → Repeats begins K → Apart begins prior → (found : List X)
    → Rule live never K (λ x. x) d item → Rule live prior (list begins K prior) (λ xs. found ++ xs) d (more begins item found)
many {K = K} {d = d} {item = item} begins prior repeats apart found k = record {
  exact = λ l s b. more_exact begins K repeats item d (λ s. k.exact l s refl) prior found s b;
  closes = λ n. none_of begins K repeats prior d n;
  keeps = list_keeps begins K repeats prior apart;
}

-- ---- with separators between them

abbrev pub commas_grabs : {T X : Type 0} → (Option T → Bool) → T → Kind T X → List X → Option T → Bool
commas_grabs is t K [] u = false
commas_grabs is t K (x ∷ xs) u = is u || ends (K.grabs x) (map K.grabs xs) u

-- at least one
abbrev pub commas : {T X : Type 0} → (Option T → Bool) → T → Kind T X → Kind T (List X)
commas is t K = record { told = λ xs. some_between t (map K.told xs); grabs = commas_grabs is t K }

pub behind_are : {T X : Type 0} (t : T) (K : Kind T X) (xs : List X) → behind_each t (map K.told xs) ≡ each (map (behind t K).told xs)
behind_are t K [] = refl
behind_are t K (x ∷ xs) = ap (λ a. (word t & K.told x) & a) (behind_are t K xs)

commas_form : {T X : Type 0} (is : Option T → Bool) (t : T) (K : Kind T X) → Form (pair K (λ x. list is (behind t K) (K.grabs x))) (commas is t K) (λ p. p.0 ∷ p.1)
commas_form is t K = told_form (pair K (λ x. list is (behind t K) (K.grabs x))) (commas is t K) (λ p. p.0 ∷ p.1) (λ p. ap (λ a. K.told p.0 & a) (behind_are t K p.1)) (λ p t. refl)

commas_all : {T X : Type 0} (is : Option T → Bool) (t : T) (K : Kind T X) (n : ℕ) (z : List X) → Is (commas is t K) n z → (x : X × List X) × Is (pair K (λ x. list is (behind t K) (K.grabs x))) n x × (x.0 ∷ x.1 ≡ z)
commas_all is t K n [] h = let e : false ≡ true = h.0 in absurd (cc)
commas_all is t K n (x ∷ xs) h = ((x, xs), subst (λ a. IsRight n (K.told x & a).atoms) (behind_are t K xs) h, refl)

behind_starts : {T X : Type 0} (is : Option T → Bool) (t : T) (K : Kind T X) → Knows is t → Starts is (behind t K)
behind_starts is t K knows n x r h = knows.yes

-- the separator is not one that an item would have gone on with
pub commas_repeat : {T X : Type 0} (is : Option T → Bool) (t : T) (K : Kind T X) → Knows is t → is None ≡ false → ((x : X) → K.grabs x (Some t) ≡ false) → Repeats is (behind t K)
commas_repeat is t K knows stop free = record { starts = behind_starts is t K knows; next = λ x u e. ap (K.grabs x) (knows.says u e) ∙ free x; at_end = stop }

pub separate : {T X : Type 0} {live : Type 0} {before : Option T → Bool} {K : Kind T X} {d : ℕ} {p : Parser T X} (is : Option T → Bool) (t : T) → Knows is t → is None ≡ false → ((x : X) → K.grabs x (Some t) ≡ false)
    → Rule live never K (λ x. x) d p → Rule live before K (λ x. x) d p → Rule live before (commas is t K) (λ xs. xs) d (separated is p)
separate {K = K} {p = p} is t knows stop free k first_one =
    shaped (commas is t K) (λ p. p.0 ∷ p.1) (λ xs. xs) (commas_form is t K) (commas_all is t K)
    (seq (λ x. x) (λ x xs. x ∷ xs) (λ x. more is (λ s. and_then (expect is s) (λ _. p)) (x ∷ [])) first_one
    (λ x. many is (K.grabs x) (commas_repeat is t K knows stop free) (λ u e. ap (K.grabs x) (knows.says u e) ∙ free x) (x ∷ []) (token_then is t knows refl k)))

-- a list with separators, or none
abbrev pub list_grabs : {T X : Type 0} → (Option T → Bool) → (Option T → Bool) → T → Kind T X → (Option T → Bool) → List X → Option T → Bool
list_grabs begins is t K prior [] u = begins u || prior u
list_grabs begins is t K prior (x ∷ xs) u = commas_grabs is t K (x ∷ xs) u

abbrev pub a_list : {T X : Type 0} → (Option T → Bool) → (Option T → Bool) → T → Kind T X → (Option T → Bool) → Kind T (List X)
a_list begins is t K prior = record { told = λ xs. between t (map K.told xs); grabs = list_grabs begins is t K prior }

commas_start : {T X : Type 0} (begins is : Option T → Bool) (t : T) (K : Kind T X) → Starts begins K → Starts begins (commas is t K)
commas_start begins is t K starts n [] r h = let e : false ≡ true = h.0 in absurd (cc)
commas_start begins is t K starts n (x ∷ xs) r h =
    let split = right_split n (n + length (words K x)) (K.told x).atoms (behind_each t (map K.told xs)).atoms refl h in
    subst (λ w. begins (first w) ≡ true) (sym (ap (λ w. w ++ r) (words_append (K.told x).atoms (behind_each t (map K.told xs)).atoms) ∙ append_assoc (words K x) (words_in (behind_each t (map K.told xs)).atoms) r))
    (starts n x (words_in (behind_each t (map K.told xs)).atoms ++ r) split.0)

listed_tells : {T X : Type 0} (begins is prior : Option T → Bool) (t : T) (K : Kind T X) (n : ℕ) (o : Option (List X)) → Is (option begins (commas is t K) prior) n o → (a_list begins is t K prior).told (or_empty o) ≡ (option begins (commas is t K) prior).told o
listed_tells begins is prior t K n None h = refl
listed_tells begins is prior t K n (Some []) h = let e : false ≡ true = h.0 in absurd (cc)
listed_tells begins is prior t K n (Some (x ∷ xs)) h = refl

listed_grabs : {T X : Type 0} (begins is prior : Option T → Bool) (t : T) (K : Kind T X) (n : ℕ) (o : Option (List X)) (u : Option T) → Is (option begins (commas is t K) prior) n o → (a_list begins is t K prior).grabs (or_empty o) u ≡ (option begins (commas is t K) prior).grabs o u
listed_grabs begins is prior t K n None u h = refl
listed_grabs begins is prior t K n (Some []) u h = let e : false ≡ true = h.0 in absurd (cc)
listed_grabs begins is prior t K n (Some (x ∷ xs)) u h = refl

listed_form : {T X : Type 0} (begins is prior : Option T → Bool) (t : T) (K : Kind T X) → Form (option begins (commas is t K) prior) (a_list begins is t K prior) or_empty
listed_form begins is prior t K = record {
  tells = λ n o h. ap (λ a. words_in a.atoms) (listed_tells begins is prior t K n o h);
  levels_are = λ n o h. ap (λ a. a.levels) (listed_tells begins is prior t K n o h);
  is = λ n o h. subst (λ a. IsRight n a.atoms) (sym (listed_tells begins is prior t K n o h)) h;
  grabs = λ n o u h. listed_grabs begins is prior t K n o u h;
}

listed_all : {T X : Type 0} (begins is prior : Option T → Bool) (t : T) (K : Kind T X) (n : ℕ) (z : List X) → Is (a_list begins is t K prior) n z → (o : Option (List X)) × Is (option begins (commas is t K) prior) n o × (or_empty o ≡ z)
listed_all begins is prior t K n [] h = (None, tt, refl)
listed_all begins is prior t K n (x ∷ xs) h = (Some (x ∷ xs), h, refl)

pub lists : {T X : Type 0} {live : Type 0} {K : Kind T X} {d : ℕ} {p : Parser T X} (begins is prior : Option T → Bool) (t : T) → Knows is t → is None ≡ false → ((x : X) → K.grabs x (Some t) ≡ false)
    → Starts begins K → Apart begins prior → Rule live never K (λ x. x) d p → Rule live prior (a_list begins is t K prior) (λ xs. xs) d (listed begins is p)
lists {K = K} begins is prior t knows stop free starts apart k =
    shaped (a_list begins is t K prior) or_empty (λ xs. xs) (listed_form begins is prior t K) (listed_all begins is prior t K)
    (mapped or_empty (perhaps begins prior (commas_start begins is t K starts) apart (separate is t knows stop free k k)))

-- parts one after another, grouped in another way
pub and_assoc : {T : Type 0} (a b c : Told T) → (a & b) & c ≡ a & b & c
and_assoc a b c =
    let levels : max (max a.levels b.levels) c.levels ≡ max a.levels (max b.levels c.levels) = omega arith in
    ap (λ l. let t : Told _ = record { atoms = l; levels = max (max a.levels b.levels) c.levels; unended = c.unended } in t) (append_assoc a.atoms b.atoms c.atoms)
    ∙ ap (λ n. let t : Told _ = record { atoms = a.atoms ++ (b.atoms ++ c.atoms); levels = n; unended = c.unended } in t) levels
