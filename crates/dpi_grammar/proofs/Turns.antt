-- A loop that counts its turns reads what `many_from` reads.
use Rattle.std.proofs.Common.{◌≡◌, ℕ, suc, ◌+◌, ◌-◌, ◌<◌, ◌≤◌, Bool, true, false, ◌⊎◌, List, [], ◌∷◌, ◌++◌, length, Option, Some, None, Ok, Err, if◌then◌else◌, inl, inr, ap, ◌∙◌, sym, arith}
use Rattle.dpi_grammar.specs.declared.stop.Stop.{Stop}
use Rattle.dpi_grammar.specs.Parser.{State, Outcome, Parser, and_then, first, many_from, more, go_on, branches_from, branches}

module _ {T A : Type 0} (begins : Option T → Bool) (item : Parser T A) where
  pub start : (found : List A) (s : State T) → more begins item found s ≡ many_from begins item (length s.rest - 0) found s
  start found s = let n : length s.rest ≡ length s.rest - 0 = omega arith in ap (λ n. many_from begins item n found s) n

  pub turn : (end at : ℕ) (found : List A) (s : State T) → at < end
      → many_from begins item (end - at) found s ≡ (if begins (first s.rest) then and_then (item s) (λ x. many_from begins item (end - (at + 1)) (found ++ x ∷ [])) else Ok (found, s))
  unfolding many_from
  turn end at found s below = let n : end - at ≡ suc (end - (at + 1)) = omega arith in ap (λ n. many_from begins item n found s) n

  -- none begins
  pub none : (o : Outcome T (List A)) (end at : ℕ) (found : List A) (s : State T) → at < end → o ≡ many_from begins item (end - at) found s → begins (first s.rest) ≡ false → o ≡ Ok (found, s)
  none o end at found s below e stop = e ∙ turn end at found s below ∙ ap (λ b. if b then and_then (item s) (λ x. many_from begins item (end - (at + 1)) (found ++ x ∷ [])) else Ok (found, s)) stop

  -- one was read
  pub next : (o : Outcome T (List A)) (end at : ℕ) (found : List A) (s : State T) (x : A) (after : State T) (more_found : List A) → at < end → o ≡ many_from begins item (end - at) found s → begins (first s.rest) ≡ true
      → item s ≡ Ok (x, after) → more_found ≡ found ++ x ∷ [] → o ≡ many_from begins item (end - (at + 1)) more_found after
  next o end at found s x after more_found below e go read pushed = e ∙ turn end at found s below
      ∙ ap (λ b. if b then and_then (item s) (λ x. many_from begins item (end - (at + 1)) (found ++ x ∷ [])) else Ok (found, s)) go
      ∙ ap (λ o. and_then o (λ x. many_from begins item (end - (at + 1)) (found ++ x ∷ []))) read
      ∙ ap (λ f. many_from begins item (end - (at + 1)) f after) (sym pushed)

  -- one was not read
  pub failed : (o : Outcome T (List A)) (end at : ℕ) (found : List A) (s : State T) (stop : Stop) → at < end → o ≡ many_from begins item (end - at) found s → begins (first s.rest) ≡ true
      → item s ≡ Err stop → o ≡ Err stop
  failed o end at found s stop below e go read = e ∙ turn end at found s below
      ∙ ap (λ b. if b then and_then (item s) (λ x. many_from begins item (end - (at + 1)) (found ++ x ∷ [])) else Ok (found, s)) go
      ∙ ap (λ o. and_then o (λ x. many_from begins item (end - (at + 1)) (found ++ x ∷ []))) read

  -- no turn is left
  pub over : (o : Outcome T (List A)) (end at : ℕ) (found : List A) (s : State T) → end ≤ at → o ≡ many_from begins item (end - at) found s → o ≡ Ok (found, s)
  unfolding many_from
  over o end at found s done e = let n : end - at ≡ 0 = omega arith in e ∙ ap (λ n. many_from begins item n found s) n

-- a number that isn't 0 follows another
pub deeper : {X : Type 0} (f : ℕ → X) (n : ℕ) → 0 < n → f n ≡ f (suc (n - 1))
deeper f n some = let e : n ≡ suc (n - 1) = omega arith in ap f e

-- ---- parts up to one that is the last

module _ {T A B W : Type 0} (begins : Option T → Bool) (part : Parser T W) (sort : W → A ⊎ B) where
  abbrev pub sorted : Parser T (A ⊎ B)
  sorted = λ s. and_then (part s) (λ w s. Ok (sort w, s))

  abbrev pub Turn : ℕ → List A → State T → Outcome T (List A × Option B)
  Turn n found s = branches_from begins sorted n found s

  branch_turn : (end at : ℕ) (found : List A) (s : State T) → at < end
      → Turn (end - at) found s ≡ (if begins (first s.rest) then and_then (sorted s) (go_on (branches_from begins sorted (end - (at + 1))) found) else Ok ((found, None), s))
  unfolding branches_from
  branch_turn end at found s below = let n : end - at ≡ suc (end - (at + 1)) = omega arith in ap (λ n. Turn n found s) n

  pub branch_start : (s : State T) → branches begins sorted s ≡ Turn (length s.rest - 0) [] s
  branch_start s = let n : length s.rest ≡ length s.rest - 0 = omega arith in ap (λ n. Turn n [] s) n

  -- none begins
  pub branch_none : (o : Outcome T (List A × Option B)) (end at : ℕ) (found : List A) (s : State T) → at < end → o ≡ Turn (end - at) found s → begins (first s.rest) ≡ false → o ≡ Ok ((found, None), s)
  branch_none o end at found s below e stop = e ∙ branch_turn end at found s below ∙ ap (λ b. if b then and_then (sorted s) (go_on (branches_from begins sorted (end - (at + 1))) found) else Ok ((found, None), s)) stop

  branch_begun : (o : Outcome T (List A × Option B)) (end at : ℕ) (found : List A) (s : State T) → at < end → o ≡ Turn (end - at) found s → begins (first s.rest) ≡ true
      → o ≡ and_then (sorted s) (go_on (branches_from begins sorted (end - (at + 1))) found)
  branch_begun o end at found s below e go = e ∙ branch_turn end at found s below ∙ ap (λ b. if b then and_then (sorted s) (go_on (branches_from begins sorted (end - (at + 1))) found) else Ok ((found, None), s)) go

  -- one was read, and it isn't the last
  pub branch_next : (o : Outcome T (List A × Option B)) (end at : ℕ) (found : List A) (s : State T) (w : W) (a : A) (after : State T) (more_found : List A) → at < end → o ≡ Turn (end - at) found s → begins (first s.rest) ≡ true
      → part s ≡ Ok (w, after) → sort w ≡ inl a → more_found ≡ found ++ a ∷ [] → o ≡ Turn (end - (at + 1)) more_found after
  branch_next o end at found s w a after more_found below e go read is pushed = branch_begun o end at found s below e go
      ∙ ap (λ o. and_then (and_then o (λ w s. Ok (sort w, s))) (go_on (branches_from begins sorted (end - (at + 1))) found)) read
      ∙ ap (λ x. go_on (branches_from begins sorted (end - (at + 1))) found x after) is
      ∙ ap (λ f. Turn (end - (at + 1)) f after) (sym pushed)

  -- the last one was read
  pub branch_last : (o : Outcome T (List A × Option B)) (end at : ℕ) (found : List A) (s : State T) (w : W) (b : B) (after : State T) → at < end → o ≡ Turn (end - at) found s → begins (first s.rest) ≡ true
      → part s ≡ Ok (w, after) → sort w ≡ inr b → o ≡ Ok ((found, Some b), after)
  branch_last o end at found s w b after below e go read is = branch_begun o end at found s below e go
      ∙ ap (λ o. and_then (and_then o (λ w s. Ok (sort w, s))) (go_on (branches_from begins sorted (end - (at + 1))) found)) read
      ∙ ap (λ x. go_on (branches_from begins sorted (end - (at + 1))) found x after) is

  -- one was not read
  pub branch_failed : (o : Outcome T (List A × Option B)) (end at : ℕ) (found : List A) (s : State T) (stop : Stop) → at < end → o ≡ Turn (end - at) found s → begins (first s.rest) ≡ true
      → part s ≡ Err stop → o ≡ Err stop
  branch_failed o end at found s stop below e go read = branch_begun o end at found s below e go
      ∙ ap (λ o. and_then (and_then o (λ w s. Ok (sort w, s))) (go_on (branches_from begins sorted (end - (at + 1))) found)) read

  -- no turn is left
  pub branch_over : (o : Outcome T (List A × Option B)) (end at : ℕ) (found : List A) (s : State T) → end ≤ at → o ≡ Turn (end - at) found s → o ≡ Ok ((found, None), s)
  unfolding branches_from
  branch_over o end at found s done e = let n : end - at ≡ 0 = omega arith in e ∙ ap (λ n. Turn n found s) n
