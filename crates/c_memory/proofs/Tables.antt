-- The list of what a function gives for the numbers from 0 on.
use Rattle.std.proofs.Common.{◌≡◌, ℕ, ◌+◌, ◌<◌, ◌≤◌, cond, eqb, [], ◌∷◌, ◌++◌, length, get_or}
use Rattle.std.proofs.Common.{set, ap, sym, ◌∙◌, arith, Option, None, length-set, inl}
use Rattle.std.proofs.Common.{inr}
use Rattle.std.proofs.lemmas.Bool.{cases_lt, cases_Bool, eqb-true, eqb-false}
use Rattle.std.proofs.lemmas.Grind.{get_or-set_at}
use Rattle.std.proofs.lemmas.List.{get_or_past, get_or-set_other}
use Rattle.std.proofs.lemmas.List.FromFn.{length-map-range_with_len, get_or-map-range_with_len}
use Rattle.std.proofs.lemmas.List.FromFn.{map-range_with_len_more, fill_by_all}
use Rattle.c_memory.specs.Object.{CObject}
use Rattle.c_memory.specs.Rows.{numbered}

pub length-numbered : (f : ℕ → Option CObject) (n : ℕ) → length (numbered f n) ≡ n
length-numbered f n = length-map-range_with_len f 0 n

below_end : (f : ℕ → Option CObject) (n k : ℕ) → k < n → get_or (numbered f n) k None ≡ f k
below_end f n k h = get_or-map-range_with_len f 0 n k k None h (omega arith)

pub numbered-at : (f : ℕ → Option CObject) (n k : ℕ) → (n ≤ k → f k ≡ None)
    → get_or (numbered f n) k None ≡ f k
numbered-at f n k past = elim (cases_lt k n) [
  | inl h ↦ below_end f n k h
  | inr h ↦
      let long : length (numbered f n) ≤ k = omega (arith, length-numbered f n) in
      get_or_past (numbered f n) k None long ∙ sym (past h)
]

pub numbered-same : (f g : ℕ → Option CObject) (n : ℕ) → ((j : ℕ) → j < n → g j ≡ f j)
    → numbered g n ≡ numbered f n
numbered-same f g n same =
    sym
    (fill_by_all g (numbered f n) n None (length-numbered f n) (λ j h. below_end f n j h
    ∙ sym (same j h)))

pub numbered-set : (f g : ℕ → Option CObject) (n k : ℕ) (v : Option CObject) → k < n
    → ((j : ℕ) → g j ≡ cond (eqb k j) v (f j)) → numbered g n ≡ set (numbered f n) k v
numbered-set f g n k v inside changed =
    let written : (j : ℕ) → j < n → get_or (set (numbered f n) k v) j None ≡ g j =
    λ j h. elim (cases_Bool (eqb k j)) [
      | inl here ↦
          let e : j ≡ k = sym (eqb-true k j here) in
          get_or-set_at (numbered f n) k j v None e (omega (arith, length-numbered f n))
          ∙ sym (changed j ∙ ap (λ b. cond b v (f j)) here)
      | inr other ↦
          get_or-set_other (numbered f n) k j v None (λ e. eqb-false k j other (sym e))
          ∙ below_end f n j h
          ∙ sym (changed j ∙ ap (λ b. cond b v (f j)) other)
    ] in
    sym
    (fill_by_all g (set (numbered f n) k v) n None (length-set (numbered f n) k v
    ∙ length-numbered f n)
    (λ j h. written j h))

pub numbered-push : (f g : ℕ → Option CObject) (n : ℕ) (v : Option CObject) → g n ≡ v
    → ((j : ℕ) → j < n → g j ≡ f j) → numbered g (n + 1) ≡ numbered f n ++ v ∷ []
numbered-push f g n v new same =
    map-range_with_len_more g 0 n n (omega arith)
    ∙ ap (λ xs. xs ++ g n ∷ []) (numbered-same f g n same)
    ∙ ap (λ x. numbered f n ++ x ∷ []) new
