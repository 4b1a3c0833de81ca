-- Modules none of whose items stands on a cycle.
use Rattle.std.proofs.Common.{◌≡◌, ℕ, zero, suc, ◌<◌, ◌≤◌, Bool, true, false, List, [], ◌∷◌, length, get_or, flat_map, sym, ap, ◌∙◌, subst, arith, inl, inr}
use Rattle.std.specs.Prelude.{◌==◌}
use Rattle.std.proofs.lemmas.List.Folds.{list_any-append}
use Rattle.std.proofs.lemmas.Bool.{false≢true, eqb-true, eq-eqb, cases_lt, or_cases, or_left, or_right, and_parts, false_from_ne_true}
use Rattle.sv_instances.specs.declared.preorder.Child.{Child}
use Rattle.sv_instances.specs.Preorder.{children_of}
use Rattle.sv_instances.specs.Tops.{marked, Marks}
use Rattle.sv_instances.specs.Cycles.{is_in, numbers_in, parts, reached, are_marked, AreFree}
use Rattle.sv_instances.proofs.Reaching.{witness, in_flat, marked_outside}

-- from a marked module marked ones alone are reached
stays_marked : (children : List (List Child)) (marks : List Bool) → ((k : ℕ) → marked marks k ≡ true → (j : ℕ) → is_in (parts children k) j ≡ true → marked marks j ≡ true) → (from : ℕ) → marked marks from ≡ true → (n k : ℕ) → is_in (reached children from n) k ≡ true → marked marks k ≡ true
stays_marked children marks closed from m zero k h = elim (or_cases (from == k) false h) [
  | inl same ↦ ap (marked marks) (sym (eqb-true from k same)) ∙ m
  | inr none ↦ absurd (false≢true none)
]
stays_marked children marks closed from m (suc n) k h =
    let f = parts children in
    let before = reached children from n in
    elim (or_cases (is_in before k) (is_in (flat_map f before) k) (sym (list_any-append (λ i. i == k) before (flat_map f before)) ∙ h)) [
      | inl a ↦ stays_marked children marks closed from m n k a
      | inr b ↦ witness (λ j. is_in (f j) k) before (marked marks k) (λ j among part. closed j (stays_marked children marks closed from m n j among) k part) (sym (in_flat f before k) ∙ b)
    ]

-- what items instantiate is marked, where all of it is
all_marked : (marks : List Bool) (row : List Child) → are_marked marks row ≡ true → (j : ℕ) → is_in (numbers_in row) j ≡ true → marked marks j ≡ true
all_marked marks [] h j k = absurd (false≢true k)
all_marked marks (c ∷ row) h j k =
    let both = and_parts (marked marks c.module_number) (are_marked marks row) h in
    elim (or_cases (c.module_number == j) (is_in (numbers_in row) j) k) [
      | inl here ↦ ap (marked marks) (sym (eqb-true c.module_number j here)) ∙ both.0
      | inr rest ↦ all_marked marks row both.1 j rest
    ]

-- one module more
pub free_more : (children : List (List Child)) (marks marks' : List Bool) (number : ℕ) → length marks' ≡ length marks → marked marks number ≡ false → are_marked marks (children_of children number) ≡ true → Marks marks (λ k. number == k) marks' → AreFree children marks → AreFree children marks'
free_more children marks marks' number long fresh all m old =
    let below : (k : ℕ) → marked marks' k ≡ true → k < length marks = λ k h.
    elim (cases_lt k (length marks)) [
      | inl inside ↦ inside
      | inr outside ↦
          let P : ℕ → Type 0 = λ n. n ≤ k in
          absurd (false≢true (sym (marked_outside marks' k (subst P (sym long) outside)) ∙ h))
    ] in
    let kept : (k : ℕ) → marked marks k ≡ true → marked marks' k ≡ true = λ k h.
    elim (cases_lt k (length marks)) [
      | inl inside ↦ m k inside ∙ or_left (marked marks k) (number == k) h
      | inr outside ↦ absurd (false≢true (sym (marked_outside marks k outside) ∙ h))
    ] in
    let either = λ (k : ℕ) (h : marked marks' k ≡ true). or_cases (marked marks k) (number == k) (sym (m k (below k h)) ∙ h) in
    let new : (j : ℕ) → is_in (parts children number) j ≡ true → marked marks j ≡ true = all_marked marks (children_of children number) all in
    record {
      closed = λ k h j part. elim (either k h) [
        | inl a ↦ kept j (old.closed k a j part)
        | inr b ↦
            let P : ℕ → Type 0 = λ i. is_in (parts children i) j ≡ true in
            kept j (new j (subst P (sym (eqb-true number k b)) part))
      ];
      free = λ k h j part. elim (either k h) [
        | inl a ↦ old.free k a j part
        | inr b ↦
            let P : ℕ → Type 0 = λ i. is_in (parts children i) j ≡ true in
            let Q : ℕ → Type 0 = λ i. is_in (reached children j (length children)) i ≡ false in
            let here = new j (subst P (sym (eqb-true number k b)) part) in
            subst Q (eqb-true number k b) (false_from_ne_true _ (λ r.
            false≢true (sym fresh ∙ stays_marked children marks old.closed j here (length children) number r)))
      ];
    }

-- an item of a list is among those that it instantiates
pub among_row : (row : List Child) (i : ℕ) (c : Child) → i < length row → c ≡ get_or row i c → is_in (numbers_in row) c.module_number ≡ true
among_row [] i c h e = absurd (omega arith)
among_row (x ∷ row) zero c h e =
    or_left (x.module_number == c.module_number) (is_in (numbers_in row) c.module_number) (eq-eqb x.module_number c.module_number (ap (λ (y : Child). y.module_number) (sym e)))
among_row (x ∷ row) (suc i) c h e =
    or_right (x.module_number == c.module_number) (is_in (numbers_in row) c.module_number) (among_row row i c (omega arith) e)
