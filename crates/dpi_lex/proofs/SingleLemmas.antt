use Rattle.std.proofs.Common.{◌≡◌, ℕ, ◌<◌, ◌≤◌, Bool, true, false, zero, suc, List, [], ◌∷◌, length}
use Rattle.std.proofs.Common.{take, get_or, refl, ap, ◌∙◌, arith}
use Rattle.dpi_lex.specs.declared.form.Form.{Form}
use Rattle.dpi_lex.specs.Shapes.{form_if}
use Rattle.dpi_lex.specs.Stretches.{longest_front, bad_byte}
use Rattle.dpi_lex.proofs.Longest.{longest_is, longest_none}

-- a test of one byte alone
abbrev pub single : (ℕ → Bool) → List ℕ → Bool
single p [] = false
single p (b ∷ []) = p b
single p (b ∷ c ∷ more) = false

-- where the first byte passes, the longest such stretch is that byte
pub longest_front-single : (p : ℕ → Bool) (test : List ℕ → Bool) (form : Form) (rest : List ℕ) →
    ((front : List ℕ) → test front ≡ single p front) → 0 < length rest →
    p (get_or rest 0 0) ≡ true →
    longest_front (λ front. form_if (test front) form) rest ≡ record { form = form; len = 1 }
longest_front-single p test form [] is some passes = absurd (omega arith)
longest_front-single p test form (b ∷ more) is some passes =
    longest_is (λ m. form_if (test (take m (b ∷ more))) form) (length (b ∷ more)) 1 form
    (omega arith) (omega arith) (ap (λ t. form_if t form) (is (b ∷ []) ∙ passes))
    (λ m past le. ap (λ t. form_if t form) (is (take m (b ∷ more)) ∙ long m more past le))
  where
    long : (m : ℕ) (more : List ℕ) → 1 < m → m ≤ length (b ∷ more) →
        single p (take m (b ∷ more)) ≡ false
    long zero more past le = refl
    long (suc zero) more past le = absurd (omega arith)
    long (suc (suc m)) [] past le = absurd (omega arith)
    long (suc (suc m)) (c ∷ more) past le = refl

-- where it doesn't, there is none
pub longest_front-no_single : (p : ℕ → Bool) (test : List ℕ → Bool) (form : Form) (rest : List ℕ) →
    ((front : List ℕ) → test front ≡ single p front) → p (get_or rest 0 0) ≡ false →
    longest_front (λ front. form_if (test front) form) rest ≡ bad_byte
longest_front-no_single p test form rest is fails =
    longest_none (λ m. form_if (test (take m rest)) form) (length rest)
    (λ m some le. ap (λ t. form_if t form) (is (take m rest) ∙ none m rest fails))
  where
    none : (m : ℕ) (rest : List ℕ) → p (get_or rest 0 0) ≡ false → single p (take m rest) ≡ false
    none zero rest fails = refl
    none (suc m) [] fails = refl
    none (suc zero) (b ∷ more) fails = fails
    none (suc (suc m)) (b ∷ []) fails = fails
    none (suc (suc m)) (b ∷ c ∷ more) fails = refl
