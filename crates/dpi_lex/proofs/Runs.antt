use Rattle.std.proofs.Common.{◌≡◌, ℕ, ◌+◌, ◌<◌, ◌≤◌, Bool, true, false, cond, ◌&&◌, zero, suc, List}
use Rattle.std.proofs.Common.{[], ◌∷◌, length, take, Option, refl, ap, ◌∙◌, arith}
use Rattle.std.specs.List.{list_all, prefix_len}
use Rattle.std.proofs.lemmas.List.Sums.{prefix_len-le-length}
use Rattle.dpi_lex.specs.declared.form.Form.{Form}
use Rattle.dpi_lex.specs.Shapes.{form_if}
use Rattle.dpi_lex.specs.Stretches.{longest_front}
use Rattle.dpi_lex.proofs.Longest.{longest_is}

-- a run that begins isn't empty
pub prefix_len-some : (p : ℕ → Bool) (b : ℕ) (more : List ℕ) → p b ≡ true →
    0 < prefix_len p (b ∷ more)
prefix_len-some p b more h = rw h (omega arith)

-- a front within the run passes
pub list_all-take_within : (p : ℕ → Bool) (m : ℕ) (xs : List ℕ) → m ≤ prefix_len p xs →
    list_all p (take m xs) ≡ true
list_all-take_within p zero xs h = refl
list_all-take_within p (suc m) [] h = refl
list_all-take_within p (suc m) (x ∷ xs) h =
    elim (p x) as (λ t. suc m ≤ cond t (1 + prefix_len p xs) 0 →
    (t && list_all p (take m xs)) ≡ true)
    [ true ↦ λ le. list_all-take_within p m xs (omega arith) | false ↦ λ le. absurd (omega arith) ]
    h

-- a front past the run doesn't
pub list_all-take_past : (p : ℕ → Bool) (m : ℕ) (xs : List ℕ) → prefix_len p xs < m →
    m ≤ length xs → list_all p (take m xs) ≡ false
list_all-take_past p zero xs h le = absurd (omega arith)
list_all-take_past p (suc m) [] h le = absurd (omega arith)
list_all-take_past p (suc m) (x ∷ xs) h le =
    elim (p x) as (λ t. cond t (1 + prefix_len p xs) 0 < suc m →
    (t && list_all p (take m xs)) ≡ false)
    [ true ↦ λ lt. list_all-take_past p m xs (omega arith) (omega arith) | false ↦ λ lt. refl ] h

-- a stretch of bytes that pass, and no others, is longest where the run ends
pub longest_front_run : (form_of : List ℕ → Option Form) (p : ℕ → Bool) (form : List ℕ → Form)
    (rest : List ℕ) → 0 < prefix_len p rest →
    ((m : ℕ) → 0 < m → m ≤ length rest →
    form_of (take m rest) ≡ form_if (list_all p (take m rest)) (form (take m rest))) →
    longest_front form_of rest ≡ record
    { form = form (take (prefix_len p rest) rest); len = prefix_len p rest }
longest_front_run form_of p form rest some same =
    let n = prefix_len p rest in
    let within : n ≤ length rest = prefix_len-le-length p rest in
    longest_is
    (λ m. form_of (take m rest))
    (length rest)
    n
    (form (take n rest))
    some
    within
    (same n some within ∙ ap (λ t. form_if t (form (take n rest)))
    (list_all-take_within p n rest (omega arith)))
    (λ m past le. same m (omega arith) le
    ∙ ap (λ t. form_if t (form (take m rest))) (list_all-take_past p m rest past le))
