-- Parts up to the last one: what stands before an operand, where a bracket may open the operand itself.
use Rattle.std.proofs.Common.{◌≡◌, ℕ, zero, suc, ◌+◌, ◌-◌, ◌<◌, ◌≤◌, Bool, true, false, ◌⊎◌, List, [], ◌∷◌, ◌++◌, map, length, Option, Some, None, Ok, Err, if◌then◌else◌, refl, sym, ap, ◌∙◌, subst, arith, inl, inr, append_assoc, append-nil, length-append}
use Rattle.dpi_grammar.specs.declared.stop.Stop.{Stop}
use Rattle.dpi_grammar.specs.Told.{Told, ◌&◌, kept, nothing, each, words_in, IsRight}
use Rattle.dpi_grammar.specs.Parser.{State, Outcome, Parser, and_then, pure, first}
use Rattle.dpi_grammar.specs.Choices.{lead, leading_from, leading}
use Rattle.dpi_grammar.proofs.Lists.{true_not_false, words_append, right_split, right_join}
use Rattle.dpi_grammar.proofs.Exact.{Kind, words, levels, Is, Viable, Found, Exact, pair, Joins, seq_exact}
use Rattle.dpi_grammar.proofs.Forms.{Form, told_form, Only, formed, form_viable}
use Rattle.dpi_grammar.proofs.Rules.{Rule, never, mapped_exact, remade_exact}
use Rattle.dpi_grammar.proofs.Many.{Starts, absent, absent_exact}
use Rattle.dpi_grammar.proofs.Choices.{either, sum, Off}

-- the value of a part: the last one is made into another
abbrev pub part_value : {A B V : Type 0} → (B → V) → A ⊎ B → A ⊎ V
part_value f (inl a) = inl a
part_value f (inr b) = inr (f b)

module _ {T A B C : Type 0} (begins : Option T → Bool) (P : Kind T (A ⊎ B)) (E : Kind T C) where
  -- a part that is the last one
  abbrev pub ending_part : Kind T B
  ending_part = record { told = λ b. P.told (inr b); grabs = λ b. P.grabs (inr b) }

  abbrev pub the_last : Kind T (B ⊎ C)
  the_last = sum ending_part E

  abbrev pub led_told : List A × (B ⊎ C) → Told T
  led_told p = each (map (λ a. P.told (inl a)) p.0) & the_last.told p.1

  abbrev pub led : Kind T (List A × (B ⊎ C))
  led = record { told = led_told; grabs = λ p. the_last.grabs p.1 }

  -- what makes these parts such
  pub record Leads : Type 0 where
    pub starts : Starts begins P
    pub stop : begins None ≡ false
    pub off : Off begins E
    pub free : (a : A) (t : Option T) → P.grabs (inl a) t ≡ false

  module _ (leads : Leads) (other : C) where
    -- behind a part that is the last one stands nothing
    abbrev rest_told : A ⊎ B → Option (List A × (B ⊎ C)) → Told T
    rest_told (inl a) (Some p) = led_told p
    rest_told (inl a) None = kept false
    rest_told (inr b) (Some p) = kept false
    rest_told (inr b) None = nothing

    abbrev rest_grabs : A ⊎ B → Option (List A × (B ⊎ C)) → Option T → Bool
    rest_grabs (inl a) (Some p) = the_last.grabs p.1
    rest_grabs (inl a) None = never
    rest_grabs (inr b) y = P.grabs (inr b)

    abbrev rest : A ⊎ B → Kind T (Option (List A × (B ⊎ C)))
    rest w = record { told = rest_told w; grabs = rest_grabs w }

    abbrev joined : (A ⊎ B) × Option (List A × (B ⊎ C)) → List A × (B ⊎ C)
    joined (inl a, Some p) = (a ∷ p.0, p.1)
    joined (inl a, None) = ([], inr other)
    joined (inr b, y) = ([], inl b)

    broken : {Z : Type 0} (n m : ℕ) (a : Told T) → m ≡ n + length (words_in a.atoms) → IsRight n (a & kept false).atoms → Z
    broken n m a e h = let r = right_split n m a.atoms (kept {T = T} false).atoms e h in let bad : false ≡ true = r.1.0 in absurd (cc)

    rest_joins : Joins P rest
    rest_joins (inl a) m y r h g = leads.free a _
    rest_joins (inr b) m None r h g = g
    rest_joins (inr b) m (Some p) r h g = let bad : false ≡ true = h.0 in absurd (cc)

    some_tells : (n : ℕ) (p : (A ⊎ B) × Option (List A × (B ⊎ C))) → Is (pair P rest) n p → words led (joined p) ≡ words (pair P rest) p
    some_tells n (inl a, Some p) h = ap words_in (append_assoc (P.told (inl a)).atoms (each (map (λ a. P.told (inl a)) p.0)).atoms (the_last.told p.1).atoms)
    some_tells n (inl a, None) h = broken n _ (P.told (inl a)) refl h
    some_tells n (inr b, None) h = sym (words_append (P.told (inr b)).atoms [] ∙ append-nil (words_in (P.told (inr b)).atoms))
    some_tells n (inr b, Some p) h = broken n _ (P.told (inr b)) refl h

    some_levels : (n : ℕ) (p : (A ⊎ B) × Option (List A × (B ⊎ C))) → Is (pair P rest) n p → levels led (joined p) ≡ levels (pair P rest) p
    some_levels n (inl a, Some p) h = omega arith
    some_levels n (inl a, None) h = broken n _ (P.told (inl a)) refl h
    some_levels n (inr b, None) h = omega arith
    some_levels n (inr b, Some p) h = broken n _ (P.told (inr b)) refl h

    some_is : (n : ℕ) (p : (A ⊎ B) × Option (List A × (B ⊎ C))) → Is (pair P rest) n p → Is led n (joined p)
    some_is n (inl a, Some p) h = subst (λ l. IsRight n l) (sym (append_assoc (P.told (inl a)).atoms (each (map (λ a. P.told (inl a)) p.0)).atoms (the_last.told p.1).atoms)) h
    some_is n (inl a, None) h = broken n _ (P.told (inl a)) refl h
    some_is n (inr b, None) h = (right_split n _ (P.told (inr b)).atoms [] refl h).0
    some_is n (inr b, Some p) h = broken n _ (P.told (inr b)) refl h

    some_grabs : (n : ℕ) (p : (A ⊎ B) × Option (List A × (B ⊎ C))) (t : Option T) → Is (pair P rest) n p → led.grabs (joined p) t ≡ (pair P rest).grabs p t
    some_grabs n (inl a, Some p) t h = refl
    some_grabs n (inl a, None) t h = broken n _ (P.told (inl a)) refl h
    some_grabs n (inr b, y) t h = refl

    some_form : Form (pair P rest) led joined
    some_form = record { tells = some_tells; levels_are = some_levels; is = some_is; grabs = some_grabs }

    some_only : (t : Option T) → begins t ≡ true → Only (pair P rest) led joined t
    some_only t e n ([], inl b) r h g same = ((inr b, None), right_join n _ (P.told (inr b)).atoms [] refl h tt, refl)
    some_only t e n ([], inr c) r h g same = true_not_false (begins t) e (ap begins (sym same) ∙ leads.off n c r h g)
    some_only t e n (a ∷ xs, z) r h g same = ((inl a, Some (xs, z)), subst (λ l. IsRight n l) (append_assoc (P.told (inl a)).atoms (each (map (λ a. P.told (inl a)) xs)).atoms (the_last.told z).atoms) h, refl)

    end_form : Form E led (λ c. ([], inr c))
    end_form = record { tells = λ n c h. refl; levels_are = λ n c h. omega arith; is = λ n c h. h; grabs = λ n c t h. refl }

    part_starts : (n : ℕ) (w : A ⊎ B) (b : List _) (r : List T) → IsRight n ((P.told w).atoms ++ b) → begins (first (words_in ((P.told w).atoms ++ b) ++ r)) ≡ true
    part_starts n w b r h =
        let s = right_split n (n + length (words P w)) (P.told w).atoms b refl h in
        ap (λ l. begins (first (l ++ r))) (words_append (P.told w).atoms b) ∙ ap (λ l. begins (first l)) (append_assoc (words P w) (words_in b) r) ∙ leads.starts n w (words_in b ++ r) s.0

    end_only : (t : Option T) → begins t ≡ false → Only E led (λ c. ([], inr c)) t
    end_only t e n ([], inl b) r h g same = true_not_false (begins t) (ap begins (sym same) ∙ leads.starts n (inr b) r h) e
    end_only t e n ([], inr c) r h g same = (c, h, refl)
    end_only t e n (a ∷ xs, z) r h g same =
        let back = append_assoc (P.told (inl a)).atoms (each (map (λ a. P.told (inl a)) xs)).atoms (the_last.told z).atoms in
        true_not_false (begins t)
        (ap begins (sym same) ∙ ap (λ l. begins (first (words_in l ++ r))) back ∙ part_starts n (inl a) (each (map (λ a. P.told (inl a)) xs) & the_last.told z).atoms r (subst (λ l. IsRight n l) back h)) e

    has_words : (w : List T) → begins (first (w ++ [])) ≡ true → 1 ≤ length w
    has_words [] h = true_not_false (begins None) h leads.stop
    has_words (t ∷ w) h = omega arith

    module _ {V : Type 0} (f : B → V) (g : C → V) where
      abbrev found_with : List A → List A × (B ⊎ C) → List A × V
      found_with found p = (found ++ p.0, either f g p.1)

      abbrev later_value : List A → A ⊎ B → Option (List A × (B ⊎ C)) → List A × V
      later_value found (inl a) (Some p) = found_with (found ++ a ∷ []) p
      later_value found (inl a) None = found_with found ([], inr other)
      later_value found (inr b) y = (found, f b)

      values_same : (found : List A) (p : (A ⊎ B) × Option (List A × (B ⊎ C))) → found_with found (joined p) ≡ later_value found p.0 p.1
      values_same found (inl a, Some p) = ap (λ l. let q : List A × V = (l, either f g p.1) in q) (sym (append_assoc found (a ∷ []) p.0))
      values_same found (inl a, None) = refl
      values_same found (inr b, y) = ap (λ l. let q : List A × V = (l, f b) in q) (append-nil found)

      module _ (part : Parser T (A ⊎ V)) (ending : Parser T V) (d : ℕ) (exact : (s : State T) → Exact P (part_value f) d s (part s)) (last_exact : (s : State T) → Exact E g d s (ending s)) where
        From : ℕ → Type 0
        From n = (found : List A) (s : State T) → length s.rest ≤ n → Exact led (found_with found) d s (leading_from begins part ending n found s)

        shorter : (n : ℕ) (s : State T) (w : A ⊎ B) (s1 : State T) → Found P d s w s1 → length s.rest ≤ suc n → length s1.rest ≤ n
        shorter n s w s1 h k = omega (arith, has_words (words P w) (leads.starts s.place w [] h.is), ap length h.split, length-append (words P w) s1.rest)

        stopped : (found : List A) (s : State T) → begins (first s.rest) ≡ false → Exact led (found_with found) d s (and_then (ending s) (λ v. pure (found, v)))
        stopped found s stop =
            formed E led (λ c. ([], inr c)) end_form (found_with found) d s _ (end_only _ stop)
            (remade_exact E (λ c. (found, g c)) (λ c. found_with found ([], inr c)) d s _ (λ c. ap (λ l. let p : List A × V = (l, g c) in p) (append-nil found))
            (mapped_exact E g (λ v. let p : List A × V = (found, v) in p) d s (ending s) (last_exact s)))

        some_only_rest : (a : A) (t : Option T) → Only led (rest (inl a)) Some t
        some_only_rest a t n (Some p) r h g2 same = (p, h, refl)
        some_only_rest a t n None r h g2 same = let bad : false ≡ true = h.0 in absurd (cc)

        none_form : (b : B) → Form (absent (P.grabs (inr b))) (rest (inr b)) (λ (_ : Unit {0}). None)
        none_form b = record { tells = λ n p h. refl; levels_are = λ n p h. refl; is = λ n p h. tt; grabs = λ n p t h. refl }

        none_only_rest : (b : B) (t : Option T) → Only (absent (P.grabs (inr b))) (rest (inr b)) (λ (_ : Unit {0}). None) t
        none_only_rest b t n None r h g2 same = (tt, tt, refl)
        none_only_rest b t n (Some p) r h g2 same = let bad : false ≡ true = h.0 in absurd (cc)

        next_exact : (n : ℕ) → From n → (found : List A) (s : State T) → length s.rest ≤ suc n → (w : A ⊎ B) (s1 : State T) → Found P d s w s1
            → Exact (rest w) (later_value found w) d s1 (lead (leading_from begins part ending n) found (part_value f w) s1)
        unfolding From
        next_exact n more found s k (inl a) s1 h =
            formed led (rest (inl a)) Some (told_form led (rest (inl a)) Some (λ p. refl) (λ p t. refl)) (later_value found (inl a)) d s1 _ (some_only_rest a _) (more (found ++ a ∷ []) s1 (shorter n s (inl a) s1 h k))
        next_exact n more found s k (inr b) s1 h =
            formed (absent (P.grabs (inr b))) (rest (inr b)) (λ _. None) (none_form b) (later_value found (inr b)) d s1 _ (none_only_rest b _) (absent_exact (P.grabs (inr b)) (found, f b) d s1 h.before)

        rest_closes : (w : A ⊎ B) (n : ℕ) → Viable led d n [] → Viable (rest w) d n []
        rest_closes (inl a) n v = record { tree = Some v.tree; left = v.left; begins = v.begins; is = v.is; few = v.few }
        rest_closes (inr b) n v = record { tree = None; left = []; begins = refl; is = tt; few = omega arith }

        module _ (closes : (n : ℕ) → Viable led d n []) where
          from_by : (n : ℕ) (found : List A) (s : State T) (b : Bool) → begins (first s.rest) ≡ b → length s.rest ≤ suc n → From n
              → Exact led (found_with found) d s (if b then and_then (part s) (lead (leading_from begins part ending n) found) else and_then (ending s) (λ v. pure (found, v)))
          from_by n found s false e k more = stopped found s e
          from_by n found s true e k more =
              formed (pair P rest) led joined some_form (found_with found) d s _ (some_only _ e)
              (remade_exact (pair P rest) (λ p. later_value found p.0 p.1) (λ p. found_with found (joined p)) d s _ (values_same found)
              (seq_exact P rest rest_joins (part_value f) (later_value found) d s (part s) (lead (leading_from begins part ending n) found) (λ w m. rest_closes w m (closes m)) (exact s) (next_exact n more found s k)))

          no_rest : (l : List T) → length l ≤ 0 → first l ≡ None
          no_rest [] h = refl
          no_rest (t ∷ l) h = absurd (omega (arith, h))

          from : (n : ℕ) → From n
          unfolding From leading_from
          from zero found s k = stopped found s (ap begins (no_rest s.rest k) ∙ leads.stop)
          from (suc n) found s k = from_by n found s (begins (first s.rest)) refl k (from n)

          pub leading_exact : (s : State T) → Exact led (found_with []) d s (leading begins part ending s)
          unfolding From
          leading_exact s = from (length s.rest) [] s (omega arith)

-- parts up to the last one
pub leading_rule : {T A B C V : Type 0} {live : Type 0} {P : Kind T (A ⊎ B)} {E : Kind T C} {d : ℕ} {part : Parser T (A ⊎ V)} {ending : Parser T V} (begins : Option T → Bool) (f : B → V) (g : C → V)
    → (leads : Leads begins P E) (other : C) → Rule live never P (part_value f) d part → Rule live never E g d ending
    → Rule live never (led begins P E) (λ p. (p.0, either f g p.1)) d (leading begins part ending)
leading_rule {P = P} {E = E} {d = d} {part = part} {ending = ending} begins f g leads other k e =
    let closes : (n : ℕ) → Viable (led begins P E) d n [] = λ n. form_viable E (led begins P E) (λ c. ([], inr c)) (end_form begins P E leads other) d n [] (e.closes n) in
    record {
      exact = λ l s b. leading_exact begins P E leads other f g part ending d (λ s. k.exact l s refl) (λ s. e.exact l s refl) closes s;
      closes = closes;
      keeps = λ n p r h g. refl;
    }

-- ---- a loop that counts its turns

module _ {T A V W : Type 0} (begins : Option T → Bool) (part : Parser T W) (sort : W → A ⊎ V) (ending : Parser T V) where
  abbrev pub sorted : Parser T (A ⊎ V)
  sorted = λ s. and_then (part s) (λ w s. Ok (sort w, s))

  abbrev pub Turn : ℕ → List A → State T → Outcome T (List A × V)
  Turn n found s = leading_from begins sorted ending n found s

  abbrev last_of : List A → State T → Outcome T (List A × V)
  last_of found s = and_then (ending s) (λ v. pure (found, v))

  leading_turn : (end at : ℕ) (found : List A) (s : State T) → at < end
      → Turn (end - at) found s ≡ (if begins (first s.rest) then and_then (sorted s) (lead (leading_from begins sorted ending (end - (at + 1))) found) else last_of found s)
  unfolding leading_from
  leading_turn end at found s below = let n : end - at ≡ suc (end - (at + 1)) = omega arith in ap (λ n. Turn n found s) n

  pub leading_start : (s : State T) → leading begins sorted ending s ≡ Turn (length s.rest - 0) [] s
  leading_start s = let n : length s.rest ≡ length s.rest - 0 = omega arith in ap (λ n. Turn n [] s) n

  -- none begins
  pub leading_none : (o : Outcome T (List A × V)) (end at : ℕ) (found : List A) (s : State T) → at < end → o ≡ Turn (end - at) found s → begins (first s.rest) ≡ false → o ≡ last_of found s
  leading_none o end at found s below e stop = e ∙ leading_turn end at found s below ∙ ap (λ b. if b then and_then (sorted s) (lead (leading_from begins sorted ending (end - (at + 1))) found) else last_of found s) stop

  leading_begun : (o : Outcome T (List A × V)) (end at : ℕ) (found : List A) (s : State T) → at < end → o ≡ Turn (end - at) found s → begins (first s.rest) ≡ true
      → o ≡ and_then (sorted s) (lead (leading_from begins sorted ending (end - (at + 1))) found)
  leading_begun o end at found s below e go = e ∙ leading_turn end at found s below ∙ ap (λ b. if b then and_then (sorted s) (lead (leading_from begins sorted ending (end - (at + 1))) found) else last_of found s) go

  -- one was read, and it isn't the last
  pub leading_next : (o : Outcome T (List A × V)) (end at : ℕ) (found : List A) (s : State T) (w : W) (a : A) (after : State T) (more_found : List A) → at < end → o ≡ Turn (end - at) found s → begins (first s.rest) ≡ true
      → part s ≡ Ok (w, after) → sort w ≡ inl a → more_found ≡ found ++ a ∷ [] → o ≡ Turn (end - (at + 1)) more_found after
  leading_next o end at found s w a after more_found below e go read is pushed = leading_begun o end at found s below e go
      ∙ ap (λ o. and_then (and_then o (λ w s. Ok (sort w, s))) (lead (leading_from begins sorted ending (end - (at + 1))) found)) read
      ∙ ap (λ x. lead (leading_from begins sorted ending (end - (at + 1))) found x after) is
      ∙ ap (λ f. Turn (end - (at + 1)) f after) (sym pushed)

  -- the last one was read
  pub leading_last : (o : Outcome T (List A × V)) (end at : ℕ) (found : List A) (s : State T) (w : W) (v : V) (after : State T) → at < end → o ≡ Turn (end - at) found s → begins (first s.rest) ≡ true
      → part s ≡ Ok (w, after) → sort w ≡ inr v → o ≡ Ok ((found, v), after)
  leading_last o end at found s w v after below e go read is = leading_begun o end at found s below e go
      ∙ ap (λ o. and_then (and_then o (λ w s. Ok (sort w, s))) (lead (leading_from begins sorted ending (end - (at + 1))) found)) read
      ∙ ap (λ x. lead (leading_from begins sorted ending (end - (at + 1))) found x after) is

  -- one was not read
  pub leading_failed : (o : Outcome T (List A × V)) (end at : ℕ) (found : List A) (s : State T) (stop : Stop) → at < end → o ≡ Turn (end - at) found s → begins (first s.rest) ≡ true
      → part s ≡ Err stop → o ≡ Err stop
  leading_failed o end at found s stop below e go read = leading_begun o end at found s below e go
      ∙ ap (λ o. and_then (and_then o (λ w s. Ok (sort w, s))) (lead (leading_from begins sorted ending (end - (at + 1))) found)) read

  -- no turn is left
  pub leading_over : (o : Outcome T (List A × V)) (end at : ℕ) (found : List A) (s : State T) → end ≤ at → o ≡ Turn (end - at) found s → o ≡ last_of found s
  unfolding leading_from
  leading_over o end at found s done e = let n : end - at ≡ 0 = omega arith in e ∙ ap (λ n. Turn n found s) n
