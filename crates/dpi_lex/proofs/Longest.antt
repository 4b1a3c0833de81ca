use Rattle.std.proofs.Common.{◌≡◌, ℕ, ◌<◌, ◌≤◌, zero, suc, Option, Some, None, refl, arith, ⊎_elim}
use Rattle.std.proofs.Common.{List, length, take}
use Rattle.std.specs.Option.{option_map_or}
use Rattle.std.proofs.lemmas.Bool.{cases_lt}
use Rattle.dpi_lex.specs.declared.form.Form.{Form}
use Rattle.dpi_lex.specs.declared.form.Stretch.{Stretch}
use Rattle.dpi_lex.specs.Stretches.{longest, longest_front, IsLongest, bad_byte}

-- where no longer stretch has a form, the stretch that has one is the longest
pub longest_is : (form_of : ℕ → Option Form) (limit n : ℕ) (form : Form) → 0 < n → n ≤ limit →
    form_of n ≡ Some form → ((m : ℕ) → n < m → m ≤ limit → form_of m ≡ None) →
    longest form_of limit ≡ record { form = form; len = n }
unfolding longest
longest_is form_of zero n form some within is longer = absurd (omega arith)
longest_is form_of (suc k) n form some within is longer =
    ⊎_elim
    (λ (lt : n < suc k). let none : form_of (suc k) ≡ None = longer (suc k) lt (omega arith) in
    rw none (longest_is form_of k n form some (omega arith) is
    (λ m more le. longer m more (omega arith))))
    (λ (ge : suc k ≤ n). let same : n ≡ suc k = omega arith in
    let here : form_of (suc k) ≡ Some form = rw same at is in rw (here, same) refl)
    (cases_lt n (suc k))

-- where no stretch has a form, the first byte is bad
pub longest_none : (form_of : ℕ → Option Form) (limit : ℕ) →
    ((m : ℕ) → 0 < m → m ≤ limit → form_of m ≡ None) → longest form_of limit ≡ bad_byte
unfolding longest
longest_none form_of zero none = refl
longest_none form_of (suc k) none =
    rw (none (suc k) (omega arith) (omega arith))
    (longest_none form_of k (λ m some le. none m some (omega arith)))

-- forms that agree have the same longest stretch
pub longest_same : (f g : ℕ → Option Form) (limit : ℕ) → ((m : ℕ) → 0 < m → m ≤ limit → f m ≡ g m) →
    longest f limit ≡ longest g limit
unfolding longest
longest_same f g zero same = refl
longest_same f g (suc k) same =
    rw (
      same (suc k) (omega arith) (omega arith),
      longest_same f g k
          (λ m some le. same m some (omega arith)),
    ) refl

by_form-within : (form : Option Form) (k : ℕ) (s : Stretch) → (0 < s.len) × (s.len ≤ suc k) →
    (0 < (option_map_or (λ f. record { form = f; len = suc k }) form s).len) ×
    ((option_map_or (λ f. record { form = f; len = suc k }) form s).len ≤ suc k)
by_form-within None k s h = h
by_form-within (Some form) k s h = (omega arith, omega arith)

-- the longest stretch has a byte, and isn't longer than the limit
pub longest-within : (form_of : ℕ → Option Form) (limit : ℕ) → 0 < limit →
    (0 < (longest form_of limit).len) × ((longest form_of limit).len ≤ limit)
unfolding longest
longest-within form_of zero some = absurd (omega arith)
longest-within form_of (suc zero) some =
    by_form-within (form_of 1) zero bad_byte (omega arith, omega arith)
longest-within form_of (suc (suc k)) some =
    let h : (0 < (longest form_of (suc k)).len) × ((longest form_of (suc k)).len ≤ suc k) =
    longest-within form_of (suc k) (omega arith) in
    by_form-within (form_of (suc (suc k))) (suc k) (longest form_of (suc k)) (h.0, omega arith)

-- a stretch past a count is the longest of all forms that agree past it
pub longest_past : (f g : ℕ → Option Form) (limit d : ℕ) → 0 < d → d < (longest f limit).len →
    ((m : ℕ) → d < m → m ≤ limit → g m ≡ f m) → longest g limit ≡ longest f limit
unfolding longest
longest_past f g zero d some past same = absurd (omega arith)
longest_past f g (suc k) d some past same =
    ⊎_elim
    (λ (lt : d < suc k). rw (same (suc k) lt (omega arith))
    (by_form (f (suc k)) past
    (λ h. longest_past f g k d some h (λ m more le. same m more (omega arith)))))
    (λ (ge : suc k ≤ d). absurd
    (let h : (0 < (longest f (suc k)).len) × ((longest f (suc k)).len ≤ suc k) =
    longest-within f (suc k) (omega arith) in too_far h.1 ge))
    (cases_lt d (suc k))
  where
    too_far : (longest f (suc k)).len ≤ suc k → suc k ≤ d → ⊥
    too_far h ge = omega arith

    by_form : (form : Option Form) →
        d < (option_map_or (λ x. record { form = x; len = suc k }) form (longest f k)).len →
        (d < (longest f k).len → longest g k ≡ longest f k) →
        option_map_or (λ x. record { form = x; len = suc k }) form (longest g k) ≡ option_map_or
        (λ x. record { form = x; len = suc k }) form (longest f k)
    by_form None past later = later past
    by_form (Some form) past later = refl

-- a longest stretch of a kind
pub longest-from : (form_of : List ℕ → Option Form) (rest : List ℕ) (s : Stretch) →
    IsLongest form_of rest s → longest_front form_of rest ≡ s
longest-from form_of rest s h =
    longest_is (λ m. form_of (take m rest)) (length rest) s.len s.form h.some h.within h.is h.longer
