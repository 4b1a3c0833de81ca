-- The parser of a base is exact.
use Rattle.std.proofs.Common.{◌≡◌, ℕ, zero, suc, ◌≤◌, Bool, true, false, List, [], ◌∷◌, ◌++◌, map, Option, Some, None, Ok, Err, if◌then◌else◌, refl, sym, ap, ◌∙◌, subst, arith, append-nil, append_assoc}
use Rattle.dpi_grammar.specs.declared.stop.Stop.TheVariants.{Syntax}
use Rattle.dpi_grammar.specs.Told.{◌&◌, kept, each}
use Rattle.dpi_grammar.specs.Parser.{State, first, step, is_there, skip_if, expect}
use Rattle.dpi_grammar.proofs.Lists.{true_not_false}
use Rattle.dpi_grammar.proofs.Exact.{Kind, words, Is, Viable, Exact, pair, seq_exact}
use Rattle.dpi_grammar.proofs.Forms.{Form, Only, formed, none_begins}
use Rattle.dpi_grammar.proofs.Rules.{Rule, one, never, expected, remade_exact}
use Rattle.dpi_grammar.proofs.Many.{Apart, absent, absent_exact}
use Rattle.dpi_lex.specs.Words.{Word}
use Rattle.c_tree.specs.declared.types.BaseWord.{BaseWord}
use Rattle.c_tree.specs.declared.types.BaseWord.TheVariants as base_words
use Rattle.c_tree.specs.declared.types.BaseRest.{BaseRest}
use Rattle.c_tree.specs.declared.types.BaseRest.TheVariants as rests
use Rattle.c_tree.specs.Classes.{class_at, is}
use Rattle.c_tree.specs.Bases.{base_class, base_word_of, rest_behind, may_end, is_rest}
use Rattle.c_tree.specs.Leaves.{Tells}
use Rattle.c_tree.specs.Types.{base_word_told, base_told}
use Rattle.c_types.specs.Reading.{word_by, word_next, begins_base, base_end, base_turn, base_from, base}
use Rattle.c_types.proofs.BaseWords.{base_token, base_knows, base_yes, next_says, next_yes, most, fewer}

-- what the words of a rest go on with
abbrev pub rest_after : Option BaseRest → List BaseWord → Option BaseRest
rest_after o [] = o
rest_after None (w ∷ ws) = None
rest_after (Some r) (w ∷ ws) = rest_after (rest_behind r w) ws

abbrev pub goes_on : Option BaseRest → Option Word → Bool
goes_on None t = false
goes_on (Some r) t = is_there (word_next r t)

abbrev rest_told : Option BaseRest → List BaseWord → Tells
rest_told o ws = kept (is_rest o ws) & each (map base_word_told ws)

-- the rest of a base
abbrev rest_by : Option BaseRest → Kind Word (List BaseWord)
rest_by o = record { told = rest_told o; grabs = λ ws. goes_on (rest_after o ws) }

abbrev rest : BaseRest → Kind Word (List BaseWord)
rest r = rest_by (Some r)

-- a base
abbrev pub a_base : Kind Word (List BaseWord)
a_base = record { told = base_told; grabs = λ ws. goes_on (rest_after (Some rests.Whole) ws) }

-- ---- one word more

-- the word has to be one that may come next
may_follow : (o : Option BaseRest) (ws : List BaseWord) → is_rest o ws ≡ true → (q : BaseRest) × (o ≡ Some q)
may_follow None ws e = absurd (cc)
may_follow (Some q) ws e = (q, refl)

-- a rest with a word begins with one that may come next
begins_next : (r : BaseRest) (n : ℕ) (w : BaseWord) (ws : List BaseWord) (t : Option Word) → Is (rest r) n (w ∷ ws) → Some (base_token w) ≡ t → word_next r t ≡ None → ⊥
begins_next r n w ws t is same none =
    let h = may_follow (rest_behind r w) ws is.0 in
    let some = ap (word_next r) (sym same) ∙ next_yes r h.0 w h.1 in
    let bad : None ≡ Some (w, h.0) = sym none ∙ some in
    absurd (cc)

more_told : (r q : BaseRest) (w : BaseWord) → rest_behind r w ≡ Some q → (n : ℕ) (ws : List BaseWord) → Is (pair (one (base_token w)) (λ _. rest q)) n (tt, ws) → Is (rest r) n (w ∷ ws)
more_told r q w e n ws h = (subst (λ o. is_rest o ws ≡ true) (sym e) h.0, h.1)

more_form : (r q : BaseRest) (w : BaseWord) → rest_behind r w ≡ Some q → Form (pair (one (base_token w)) (λ _. rest q)) (rest r) (λ p. w ∷ p.1)
more_form r q w e = record {
  tells = λ n p h. refl;
  levels_are = λ n p h. refl;
  is = λ n p h. more_told r q w e n p.1 h;
  grabs = λ n p t h. ap (λ o. goes_on (rest_after o p.1) t) e;
}

more_only : (r q : BaseRest) (w : BaseWord) (t : Option Word) → word_next r t ≡ Some (w, q) → Only (pair (one (base_token w)) (λ _. rest q)) (rest r) (λ (p : Unit {0} × List BaseWord). w ∷ p.1) t
more_only r q w t e n [] rs is g same = let there : is_there (word_next r t) ≡ false = ap (λ t. is_there (word_next r t)) (sym same) ∙ g in true_not_false (is_there (word_next r t)) (ap is_there e) there
more_only r q w t e n (v ∷ ws) rs is g same =
    let h = may_follow (rest_behind r v) ws is.0 in
    let twice : ◌≡◌ {A = Option (BaseWord × BaseRest)} (Some (w, q)) (Some (v, h.0)) = sym e ∙ ap (word_next r) (sym same) ∙ next_yes r h.0 v h.1 in
    let pairs : ◌≡◌ {A = BaseWord × BaseRest} (w, q) (v, h.0) = cc in
    let word : w ≡ v = ap (λ p. p.0) pairs in
    let rest_is : rest_behind r v ≡ Some q = h.1 ∙ ap (λ p. Some p.1) (sym pairs) in
    ((tt, ws), (subst (λ o. is_rest o ws ≡ true) rest_is is.0, is.1), ap (λ v. v ∷ ws) word)

-- ---- the end

-- a shortest rest
rest_closes : (r : BaseRest) (d n : ℕ) → Viable (rest r) d n []
rest_closes rests.Whole d n = record { tree = base_words.Int ∷ []; left = _; begins = refl; is = (refl, tt); few = omega arith }
rest_closes rests.BehindSign d n = record { tree = []; left = []; begins = refl; is = (refl, tt); few = omega arith }
rest_closes rests.BehindLong d n = record { tree = base_words.Long ∷ []; left = _; begins = refl; is = (refl, tt); few = omega arith }
rest_closes rests.BehindSize d n = record { tree = []; left = []; begins = refl; is = (refl, tt); few = omega arith }
rest_closes rests.Complete d n = record { tree = []; left = []; begins = refl; is = (refl, tt); few = omega arith }

end_form : (r : BaseRest) → may_end r ≡ true → Form (absent (λ t. is_there (word_next r t))) (rest r) (λ (_ : Unit {0}). [])
end_form r e = record { tells = λ n p h. refl; levels_are = λ n p h. refl; is = λ n p h. (e, tt); grabs = λ n p t h. refl }

end_only : (r : BaseRest) (t : Option Word) → word_next r t ≡ None → Only (absent (λ t. is_there (word_next r t))) (rest r) (λ (_ : Unit {0}). []) t
end_only r t e n [] rs is g same = (tt, tt, refl)
end_only r t e n (w ∷ ws) rs is g same = absurd (begins_next r n w ws t is same e)

none_ends : (r : BaseRest) → may_end r ≡ false → (t : Option Word) → word_next r t ≡ None → (n : ℕ) (ws : List BaseWord) (rs : List Word) → Is (rest r) n ws → first (words (rest r) ws ++ rs) ≡ t → ⊥
none_ends r e t none n [] rs is same = true_not_false (may_end r) is.0 e
none_ends r e t none n (w ∷ ws) rs is same = begins_next r n w ws t is same none

no_more : (r : BaseRest) (t : Option Word) → most r ≤ 0 → (o : Option (BaseWord × BaseRest)) → word_next r t ≡ o → word_next r t ≡ None
no_more r t few None e = e
no_more r t few (Some p) e = let less = fewer r p.1 p.0 (next_says r t p e).1 in absurd (omega (arith, few, less))

module _ (d : ℕ) where
  abbrev From : ℕ → Type 0
  From n = (r : BaseRest) → most r ≤ n → (found : List BaseWord) (s : State Word) → Exact (rest r) (λ ws. found ++ ws) d s (base_from n r found s)

  ended_by : (r : BaseRest) (found : List BaseWord) (s : State Word) (b : Bool) → may_end r ≡ b → word_next r (first s.rest) ≡ None
      → Exact (rest r) (λ ws. found ++ ws) d s (if b then Ok (found, s) else Err (Syntax s.place))
  ended_by r found s true e none =
      formed (absent (λ t. is_there (word_next r t))) (rest r) (λ _. []) (end_form r e) (λ ws. found ++ ws) d s _ (end_only r _ none)
      (remade_exact (absent (λ t. is_there (word_next r t))) (λ _. found) (λ _. found ++ []) d s _ (λ _. append-nil found)
      (absent_exact (λ t. is_there (word_next r t)) found d s (ap is_there none)))
  ended_by r found s false e none = none_begins (rest r) (λ ws. found ++ ws) d s (rest_closes r d s.place) (λ n ws rs is g same. none_ends r e (first s.rest) none n ws rs is same)

  ended : (r : BaseRest) (found : List BaseWord) (s : State Word) → word_next r (first s.rest) ≡ None → Exact (rest r) (λ ws. found ++ ws) d s (base_end r found s)
  ended r found s none = ended_by r found s (may_end r) refl none

  -- the token of a word
  taken : (w : BaseWord) (s : State Word) → first s.rest ≡ Some (base_token w) → Exact (one (base_token w)) (λ u. u) d s (Ok (tt, step s))
  taken w s there =
      let known = base_knows w in
      let read : expect (is (base_class w)) s ≡ Ok (tt, step s) = ap (λ o. skip_if (is (base_class w) o) s) there ∙ ap (λ b. skip_if b s) known.yes in
      let rule : Rule (Unit {0}) never (one (base_token w)) (λ u. u) d (expect (is (base_class w))) = expected (is (base_class w)) (base_token w) known refl in
      subst (λ o. Exact (one (base_token w)) (λ u. u) d s o) read (rule.exact tt s refl)

  turned : (n : ℕ) → From n → (r : BaseRest) → most r ≤ suc n → (found : List BaseWord) (s : State Word) (o : Option (BaseWord × BaseRest)) → word_next r (first s.rest) ≡ o
      → Exact (rest r) (λ ws. found ++ ws) d s (base_turn (base_from n) r found o s)
  turned n more r few found s None e = ended r found s e
  turned n more r few found s (Some p) e =
      let h = next_says r (first s.rest) p e in
      let less = fewer r p.1 p.0 h.1 in
      formed (pair (one (base_token p.0)) (λ _. rest p.1)) (rest r) (λ q. p.0 ∷ q.1) (more_form r p.1 p.0 h.1) (λ ws. found ++ ws) d s _ (more_only r p.1 p.0 _ e)
      (remade_exact _ (λ q. (found ++ p.0 ∷ []) ++ q.1) _ d s _ (λ q. sym (append_assoc found (p.0 ∷ []) q.1))
      (seq_exact (one (base_token p.0)) (λ _. rest p.1) (λ x m ws rs is g. refl) (λ u. u) (λ _ ws. (found ++ p.0 ∷ []) ++ ws) d s (Ok (tt, step s)) (λ _. base_from n p.1 (found ++ p.0 ∷ []))
      (λ x m. rest_closes p.1 d m) (taken p.0 s h.0)
      (λ x s1 f. more p.1 (omega (arith, few, less)) (found ++ p.0 ∷ []) s1)))

  from : (n : ℕ) → From n
  unfolding base_from
  from zero r few found s = ended r found s (no_more r (first s.rest) few (word_next r (first s.rest)) refl)
  from (suc n) r few found s = turned n (from n) r few found s (word_next r (first s.rest)) refl

-- a base begins with one of its words
pub base_starts : (n : ℕ) (ws : List BaseWord) (r : List Word) → Is a_base n ws → begins_base (first (words a_base ws ++ r)) ≡ true
base_starts n [] r h = absurd (cc)
base_starts n (w ∷ ws) r h = ap is_there (base_yes w)

pub base_rule : {live : Type 0} {before : Option Word → Bool} {d : ℕ} → Apart begins_base before → Rule live before a_base (λ ws. ws) d base
base_rule {before = before} {d = d} apart = record {
  exact = λ l s b. from d 4 rests.Whole (omega arith) [] s;
  closes = λ n. rest_closes rests.Whole d n;
  keeps = λ n ws r is g. apart _ (base_starts n ws r is);
}

goes_on_by : (r : BaseRest) (o : Option BaseWord) → is_there (word_by r o) ≡ true → is_there o ≡ true
goes_on_by r None e = e
goes_on_by r (Some w) e = refl

goes_on_base : (o : Option BaseRest) (t : Option Word) → goes_on o t ≡ true → begins_base t ≡ true
goes_on_base None t e = absurd (cc)
goes_on_base (Some r) t e = goes_on_by r (base_word_of (class_at t)) e

-- what a base goes on with is a word of one
pub base_grabs : (ws : List BaseWord) (t : Option Word) → a_base.grabs ws t ≡ true → begins_base t ≡ true
base_grabs ws t e = goes_on_base (rest_after (Some rests.Whole) ws) t e
