-- Lists of pieces whose spellings tell where they end.
use Rattle.std.proofs.Common.{◌≡◌, ℕ, ◌+◌, ◌-◌, ◌≤◌, ◌<◌, Bool, true, false, List, [], ◌∷◌, ◌++◌, length, drop, refl, ap, sym}
use Rattle.std.proofs.Common.{◌∙◌, Option, Some, None, append_assoc, length-append, length-drop, arith, get_or}
use Rattle.std.specs.Prelude.{◌==◌, unwrap_or}
use Rattle.std.specs.List.{All, flat_map}
use Rattle.std.proofs.lemmas.Bool.{false≢true}
use Rattle.std.proofs.lemmas.Bool.Decides.{nat_tests}
use Rattle.std.proofs.lemmas.List.{append_cancel_left, flat_map_more, drop-drop}
use Rattle.std.proofs.lemmas.List.Elements.{All-head, All-tail, All-nil, All-push}
use Rattle.std.proofs.Math.Seq.{drop-append_seam}

pub eq_of : (b c : ℕ) → (b == c) ≡ true → b ≡ c
eq_of b c h = grind (arith, nat_tests)

equal : (b c : ℕ) → b ≡ c → (b == c) ≡ true
equal b c h = grind (arith, nat_tests)

unequal_by : (b c : ℕ) (t : Bool) → (b == c) ≡ t → ¬ (b ∷ [] ≡ c ∷ []) → (b == c) ≡ false
unequal_by b c true e h = absurd (h (ap (λ x. x ∷ []) (eq_of b c e)))
unequal_by b c false e h = e

pub unequal : (b c : ℕ) → ¬ (b ∷ [] ≡ c ∷ []) → (b == c) ≡ false
unequal b c h = unequal_by b c (b == c) refl h

pub differs : (b c : ℕ) → (b == c) ≡ false → ¬ (b ∷ [] ≡ c ∷ [])
differs b c e h =
    let same : b ≡ c = ap (λ xs. get_or xs 0 0) h in
    false≢true (sym e ∙ equal b c same)

pub none≢some : {A : Type 0} (o : Option A) (p : A) → o ≡ None → o ≡ Some p → ⊥
none≢some o p n s = cc

-- a piece is told by its spelling, whatever stands behind it
abbrev pub IsTold : {A : Type 0} → (List ℕ → Option A) → (A → List ℕ) → (A → Type 0) → Type 0
IsTold {A} first spelled IsPlain = (p : A) (rest : List ℕ) → IsPlain p → first (spelled p ++ rest) ≡ Some p

-- the bytes begin with the piece
abbrev pub Begins : {A : Type 0} → (A → List ℕ) → (A → Type 0) → List ℕ → A → Type 0
Begins spelled IsPlain bytes p = IsPlain p × ((rest : List ℕ) × (bytes ≡ spelled p ++ rest))

-- two spellings with what stands behind them are the same only for one piece
pub same_first : {A : Type 0} (first : List ℕ → Option A) (spelled : A → List ℕ) (IsPlain : A → Type 0)
    → IsTold first spelled IsPlain → (p q : A) (r s : List ℕ) → IsPlain p → IsPlain q
    → spelled p ++ r ≡ spelled q ++ s → (p ≡ q) × (r ≡ s)
same_first first spelled IsPlain told p q r s hp hq e =
    let same : p ≡ q = ap (λ o. unwrap_or o p) (sym (told p r hp) ∙ ap first e ∙ told q s hq) in
    (same, append_cancel_left (spelled p) r s (e ∙ sym (ap (λ x. spelled x ++ s) same)))

-- no piece is spelled by nothing
pub not_empty : {A : Type 0} (first : List ℕ → Option A) (spelled : A → List ℕ) (IsPlain : A → Type 0)
    → IsTold first spelled IsPlain → first [] ≡ None → (p : A) (r : List ℕ) → IsPlain p
    → [] ≡ spelled p ++ r → ⊥
not_empty first spelled IsPlain told nothing p r hp e =
    none≢some (first []) p nothing (ap first e ∙ told p r hp)

pub unique : {A : Type 0} (first : List ℕ → Option A) (spelled : A → List ℕ) (IsPlain : A → Type 0)
    → IsTold first spelled IsPlain → first [] ≡ None → (ps qs : List A) → All IsPlain ps → All IsPlain qs
    → flat_map spelled ps ≡ flat_map spelled qs → ps ≡ qs
unique first spelled IsPlain told nothing [] [] h k e = refl
unique first spelled IsPlain told nothing [] (q ∷ qs) h k e =
    absurd (not_empty first spelled IsPlain told nothing q (flat_map spelled qs) (All-head IsPlain q qs k) e)
unique first spelled IsPlain told nothing (p ∷ ps) [] h k e =
    absurd (not_empty first spelled IsPlain told nothing p (flat_map spelled ps) (All-head IsPlain p ps h) (sym e))
unique first spelled IsPlain told nothing (p ∷ ps) (q ∷ qs) h k e =
    let same : (p ≡ q) × (flat_map spelled ps ≡ flat_map spelled qs) =
    same_first first spelled IsPlain told p q (flat_map spelled ps) (flat_map spelled qs)
    (All-head IsPlain p ps h) (All-head IsPlain q qs k) e in
    ap (λ x. x ∷ ps) same.0
    ∙ ap (λ xs. q ∷ xs)
    (unique first spelled IsPlain told nothing ps qs (All-tail IsPlain p ps h) (All-tail IsPlain q qs k) same.1)

-- pieces that spell what the pieces read so far begin go on with pieces that spell the rest
pub unread : {A : Type 0} (first : List ℕ → Option A) (spelled : A → List ℕ) (IsPlain : A → Type 0)
    → IsTold first spelled IsPlain → first [] ≡ None → (ps : List A) (rest : List ℕ) (qs : List A)
    → All IsPlain ps → All IsPlain qs → flat_map spelled ps ++ rest ≡ flat_map spelled qs
    → (more : List A) × (All IsPlain more × (rest ≡ flat_map spelled more))
unread first spelled IsPlain told nothing [] rest qs h k e = (qs, (k, e))
unread first spelled IsPlain told nothing (p ∷ ps) rest [] h k e =
    absurd
    (not_empty first spelled IsPlain told nothing p (flat_map spelled ps ++ rest) (All-head IsPlain p ps h)
    (sym e ∙ append_assoc (spelled p) (flat_map spelled ps) rest))
unread first spelled IsPlain told nothing (p ∷ ps) rest (q ∷ qs) h k e =
    let same : (p ≡ q) × (flat_map spelled ps ++ rest ≡ flat_map spelled qs) =
    same_first first spelled IsPlain told p q (flat_map spelled ps ++ rest) (flat_map spelled qs)
    (All-head IsPlain p ps h) (All-head IsPlain q qs k)
    (sym (append_assoc (spelled p) (flat_map spelled ps) rest) ∙ e) in
    unread first spelled IsPlain told nothing ps rest qs (All-tail IsPlain p ps h) (All-tail IsPlain q qs k) same.1

-- where no piece stands first, no pieces spell the bytes
stuck : {A : Type 0} (first : List ℕ → Option A) (spelled : A → List ℕ) (IsPlain : A → Type 0)
    → IsTold first spelled IsPlain → (rest : List ℕ) → 0 < length rest → first rest ≡ None → (qs : List A)
    → All IsPlain qs → rest ≡ flat_map spelled qs → ⊥
stuck first spelled IsPlain told rest some none [] k e =
    let empty : length rest ≡ 0 = ap length e in omega (arith, some, empty)
stuck first spelled IsPlain told rest some none (q ∷ qs) k e =
    none≢some (first rest) q none (ap first e ∙ told q (flat_map spelled qs) (All-head IsPlain q qs k))

-- where no piece stands behind those read so far, none spell the whole
pub unknown : {A : Type 0} (first : List ℕ → Option A) (spelled : A → List ℕ) (IsPlain : A → Type 0)
    → IsTold first spelled IsPlain → first [] ≡ None → (bytes : List ℕ) (place : ℕ) (ps : List A)
    → All IsPlain ps → bytes ≡ flat_map spelled ps ++ drop place bytes → place < length bytes
    → first (drop place bytes) ≡ None → (qs : List A) → All IsPlain qs × (bytes ≡ flat_map spelled qs) → ⊥
unknown first spelled IsPlain told nothing bytes place ps h e some none qs k =
    let more = unread first spelled IsPlain told nothing ps (drop place bytes) qs h k.0 (sym e ∙ k.1) in
    let left : 0 < length (drop place bytes) = omega (arith, some, length-drop place bytes) in
    stuck first spelled IsPlain told (drop place bytes) left none more.0 more.1.0 more.1.1

-- the pieces read so far spell the bytes up to the place
pub record HasRead {A : Type 0} (spelled : A → List ℕ) (IsPlain : A → Type 0) (bytes : List ℕ) (place : ℕ) (ps : List A) : Type 0 where
  pub within : place ≤ length bytes
  pub plain : All IsPlain ps
  pub same : bytes ≡ flat_map spelled ps ++ drop place bytes

pub start : {A : Type 0} (spelled : A → List ℕ) (IsPlain : A → Type 0) (bytes : List ℕ)
    → HasRead spelled IsPlain bytes 0 []
start spelled IsPlain bytes = record { within = omega arith; plain = All-nil IsPlain; same = refl }

-- one piece more
pub step : {A : Type 0} (spelled : A → List ℕ) (IsPlain : A → Type 0) (bytes : List ℕ) (place : ℕ) (ps : List A) (p : A)
    → HasRead spelled IsPlain bytes place ps → Begins spelled IsPlain (drop place bytes) p
    → HasRead spelled IsPlain bytes (place + length (spelled p)) (ps ++ p ∷ [])
step spelled IsPlain bytes place ps p so_far next =
    let rest : List ℕ = next.1.0 in
    let sizes : length bytes - place ≡ length (spelled p) + length rest =
    sym (length-drop place bytes) ∙ ap length next.1.1 ∙ length-append (spelled p) rest in
    let behind : drop (place + length (spelled p)) bytes ≡ rest =
    sym (drop-drop (length (spelled p)) place bytes) ∙ ap (drop (length (spelled p))) next.1.1
    ∙ drop-append_seam (spelled p) rest in
    let longer : bytes ≡ flat_map spelled (ps ++ p ∷ []) ++ rest =
    so_far.same ∙ ap (λ r. flat_map spelled ps ++ r) next.1.1
    ∙ sym (append_assoc (flat_map spelled ps) (spelled p) rest)
    ∙ ap (λ r. r ++ rest) (flat_map_more spelled [] ps p) in
    record {
      within = omega (arith, so_far.within, sizes);
      plain = All-push IsPlain ps p so_far.plain next.0;
      same = longer ∙ ap (λ r. flat_map spelled (ps ++ p ∷ []) ++ r) (sym behind);
    }
