-- Parts that each open a level: one that may be absent, and lists of them.
use Rattle.std.proofs.Common.{◌≡◌, ℕ, zero, suc, ◌+◌, ◌≤◌, Bool, true, false, ◌||◌, List, [], ◌∷◌, ◌++◌, length, Option, Some, None, Ok, Err, if◌then◌else◌, refl, sym, ap, ◌∙◌, subst, arith, append-nil}
use Rattle.dpi_grammar.specs.declared.stop.Stop.{Stop}
use Rattle.dpi_grammar.specs.declared.stop.Stop.TheVariants.{TooDeep}
use Rattle.dpi_grammar.specs.Parser.{State, Parser, and_then, first, level, optional, optional_by, many_from, more}
use Rattle.dpi_grammar.proofs.Lists.{true_not_false, words_append, right_join}
use Rattle.dpi_grammar.proofs.Exact.{Kind, words, levels, Is, Viable, Exact}
use Rattle.dpi_grammar.proofs.Forms.{within, enter, opens, formed, within_viable}
use Rattle.dpi_grammar.proofs.Rules.{Rule, never, Knows, Inside, remade_exact}
use Rattle.dpi_grammar.proofs.Many.{Starts, Apart, or_left, or_both, option, option_grabs, option_keeps, none_form, none_only, absent, absent_exact, perhaps, list, Repeats, list_keeps, empty_form, empty_only, many}

-- a rule one level further in
pub deeper_rule : {T X Z : Type 0} {live : Type 0} {before : Option T → Bool} {S : Kind T X} {make : X → Z} {d : ℕ} {p : Parser T Z}
    → Rule live before S make d p → Rule live before (within S) make (d + 1) p
deeper_rule {S = S} {make = make} {d = d} {p = p} k = record {
  exact = λ l s b. enter S make d s (p s) (k.exact l s b);
  closes = λ n. within_viable S d n [] (k.closes n);
  keeps = k.keeps;
}

many_none : {T X : Type 0} (is : Option T → Bool) (item : Parser T X) (n : ℕ) (found : List X) (s : State T) → is (first s.rest) ≡ false → many_from is item n found s ≡ Ok (found, s)
unfolding many_from
many_none is item zero found s e = refl
many_none is item (suc n) found s e = ap (λ b. if b then and_then (item s) (λ x. many_from is item n (found ++ x ∷ [])) else Ok (found, s)) e

some_left : {T : Type 0} (is : Option T → Bool) (rest : List T) → is None ≡ false → is (first rest) ≡ true → 1 ≤ length rest
some_left is [] stop e = true_not_false (is None) e stop
some_left is (t ∷ rest) stop e = omega arith

many_stop : {T X : Type 0} (is : Option T → Bool) (item : Parser T X) (n : ℕ) (found : List X) (s : State T) (stop : Stop) → 1 ≤ n → is (first s.rest) ≡ true → item s ≡ Err stop → many_from is item n found s ≡ Err stop
unfolding many_from
many_stop is item zero found s stop h e read = absurd (omega (arith, h))
many_stop is item (suc n) found s stop h e read =
    ap (λ b. if b then and_then (item s) (λ x. many_from is item n (found ++ x ∷ [])) else Ok (found, s)) e ∙ ap (λ o. and_then o (λ x. many_from is item n (found ++ x ∷ []))) read

-- each tree opens a level, with this token
pub record Opens {T X E : Type 0} (Good : Type 0 → ℕ → E → Type 0) (is : Option T → Bool) (t : T) (K : Kind T X) (body : E → Parser T X) : Type 1 where
  pub rule : (live : Type 0) (m : ℕ) (e : E) → Good live m e → Rule live never K (λ x. x) (m + 1) (body e)
  pub some : E
  pub dead : (m : ℕ) → Good ⊥ m some
  pub knows : Knows is t
  pub stop : is None ≡ false
  pub starts : (n : ℕ) (x : X) (r : List T) → Is K n x → first (words K x ++ r) ≡ Some t
  pub high : (x : X) → levels K x ≤ 0 → ⊥

module _ {T X E : Type 0} (Good : Type 0 → ℕ → E → Type 0) (is prior : Option T → Bool) (t : T) (K : Kind T X) (body : E → Parser T X) (o : Opens Good is t K body) (free : prior (Some t) ≡ false) where
  opens_start : Starts is K
  opens_start n x r h = ap is (o.starts n x r h) ∙ o.knows.yes

  opens_apart : Apart is prior
  opens_apart u e = ap prior (o.knows.says u e) ∙ free

  option_low : (n : ℕ) (z : Option X) (r : List T) (u : Option T) → is u ≡ true → option_grabs is K prior z (first r) ≡ false → first (words (option is K prior) z ++ r) ≡ u → levels (option is K prior) z ≤ 0 → ⊥
  option_low n None r u e g same few = true_not_false (is (first r)) (ap is same ∙ e) (or_left _ _ g)
  option_low n (Some x) r u e g same few = o.high x few

  option_zero : (s : State T) (b : Bool) → is (first s.rest) ≡ b → prior (first s.rest) ≡ false → Exact (option is K prior) (λ o. o) 0 s (optional_by b (level None body) s)
  option_zero s true e free_now =
      let v = (o.rule ⊥ 0 o.some (o.dead 0)).closes s.place in
      opens (option is K prior) (λ o. o) 0 s (Some v.tree) (record { tree = None; left = []; begins = refl; is = tt; few = omega arith }) v.is
      (λ r. o.starts s.place v.tree r v.is ∙ sym (o.knows.says _ e))
      (λ n z r is_tree g same few. option_low n z r (first s.rest) e g same few)
  option_zero s false e free_now =
      formed (absent (λ u. is u || prior u)) (option is K prior) (λ _. None) (none_form is prior K) (λ o. o) 0 s _ (none_only is prior K opens_start _ e)
      (absent_exact (λ u. is u || prior u) None 0 s (or_both (is (first s.rest)) (prior (first s.rest)) e free_now))

  -- a part that opens a level, and may be absent
  pub perhaps_deeper : (d : ℕ) (inner : Option E) → Inside Good d inner → Rule (Unit {0}) prior (option is K prior) (λ o. o) d (optional is (level inner body))
  perhaps_deeper d None none = subst (λ d. Rule (Unit {0}) prior (option is K prior) (λ o. o) d (optional is (level None body))) (sym none) (record {
    exact = λ l s b. option_zero s (is (first s.rest)) refl b;
    closes = λ n. record { tree = None; left = []; begins = refl; is = tt; few = omega arith };
    keeps = option_keeps is prior K opens_start opens_apart;
  })
  perhaps_deeper d (Some e) h = subst (λ d. Rule (Unit {0}) prior (option is K prior) (λ o. o) d (optional is (body e))) (sym h.1)
      (perhaps is prior opens_start opens_apart (o.rule (Unit {0}) h.0 e h.2))

  pub opens_repeat : ((x : X) → K.grabs x (Some t) ≡ false) → Repeats is K
  opens_repeat next = record { starts = opens_start; next = λ x u e. ap (K.grabs x) (o.knows.says u e) ∙ next x; at_end = o.stop }

  module _ (next : (x : X) → K.grabs x (Some t) ≡ false) where
    list_low : (n : ℕ) (z : List X) (r : List T) (u : Option T) → is u ≡ true → (list is K prior).grabs z (first r) ≡ false → first (words (list is K prior) z ++ r) ≡ u → levels (list is K prior) z ≤ 0 → ⊥
    list_low n [] r u e g same few = true_not_false (is (first r)) (ap is same ∙ e) (or_left _ _ g)
    list_low n (x ∷ xs) r u e g same few = o.high x (omega (arith, few))

    list_zero : (found : List X) (s : State T) (b : Bool) → is (first s.rest) ≡ b → prior (first s.rest) ≡ false → Exact (list is K prior) (λ xs. found ++ xs) 0 s (more is (level None body) found s)
    list_zero found s true e free_now =
        let v = (o.rule ⊥ 0 o.some (o.dead 0)).closes s.place in
        let stuck = many_stop is (level None body) (length s.rest) found s (TooDeep s.place) (some_left is s.rest o.stop e) e refl in
        let one : Viable (list is K prior) (0 + 1) s.place [] = record {
          tree = v.tree ∷ [];
          left = words (list is K prior) (v.tree ∷ []);
          begins = refl;
          is = right_join s.place _ (K.told v.tree).atoms [] refl v.is tt;
          few = omega (arith, v.few);
        } in
        subst (λ o. Exact (list is K prior) (λ xs. found ++ xs) 0 s o) (sym stuck)
        (opens (list is K prior) (λ xs. found ++ xs) 0 s (v.tree ∷ []) (record { tree = []; left = []; begins = refl; is = tt; few = omega arith }) one.is
        (λ r. ap first (ap (λ w. w ++ r) (words_append (K.told v.tree).atoms [] ∙ append-nil (words K v.tree))) ∙ o.starts s.place v.tree r v.is ∙ sym (o.knows.says _ e))
        (λ n z r is_tree g same few. list_low n z r (first s.rest) e g same few))
    list_zero found s false e free_now =
        subst (λ o. Exact (list is K prior) (λ xs. found ++ xs) 0 s o) (sym (many_none is (level None body) (length s.rest) found s e))
        (formed (absent (λ t. is t || prior t)) (list is K prior) (λ _. []) (empty_form is K (opens_repeat next) prior) (λ xs. found ++ xs) 0 s _ (empty_only is K (opens_repeat next) prior _ e)
        (remade_exact (absent (λ t. is t || prior t)) (λ _. found) (λ _. found ++ []) 0 s _ (λ _. append-nil found)
        (absent_exact (λ t. is t || prior t) found 0 s (or_both (is (first s.rest)) (prior (first s.rest)) e free_now))))

    -- parts that each open a level
    pub many_deeper : (found : List X) (d : ℕ) (inner : Option E) → Inside Good d inner → Rule (Unit {0}) prior (list is K prior) (λ xs. found ++ xs) d (more is (level inner body) found)
    many_deeper found d None none = subst (λ d. Rule (Unit {0}) prior (list is K prior) (λ xs. found ++ xs) d (more is (level None body) found)) (sym none) (record {
      exact = λ l s b. list_zero found s (is (first s.rest)) refl b;
      closes = λ n. record { tree = []; left = []; begins = refl; is = tt; few = omega arith };
      keeps = list_keeps is K (opens_repeat next) prior opens_apart;
    })
    many_deeper found d (Some e) h = subst (λ d. Rule (Unit {0}) prior (list is K prior) (λ xs. found ++ xs) d (more is (body e) found)) (sym h.1)
        (many is prior (opens_repeat next) opens_apart found (o.rule (Unit {0}) h.0 e h.2))
