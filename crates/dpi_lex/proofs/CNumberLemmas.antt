use Rattle.std.proofs.Common.{◌≡◌, ℕ, ◌<◌, ◌≤◌, Bool, true, false, ◌&&◌, ◌||◌, zero, suc, List}
use Rattle.std.proofs.Common.{[], ◌∷◌, length, take, get_or, refl, ap, sym, ◌∙◌, arith}
use Rattle.std.specs.List.{list_all, prefix_len}
use Rattle.dpi_lex.specs.declared.form.Form.{Form}
use Rattle.dpi_lex.specs.declared.form.Stretch.{Stretch}
use Rattle.dpi_lex.specs.Bytes.{is_digit, is_letter}
use Rattle.dpi_lex.specs.CNumbers.{is_number_byte, is_number_stretch, is_c_number, c_number_form}
use Rattle.dpi_lex.specs.Digits.{number_if}
use Rattle.dpi_lex.specs.Shapes.{form_if}
use Rattle.dpi_lex.specs.Stretches.{longest_front}
use Rattle.dpi_lex.proofs.Runs.{longest_front_run, prefix_len-some}

or_true : (t : Bool) → (t || true) ≡ true
or_true true = refl
or_true false = refl

pub digit_goes_on : (b : ℕ) → is_digit b ≡ true → is_number_byte b ≡ true
digit_goes_on b h = ap (λ t. is_letter b || t) h ∙ or_true (is_letter b)

pub is_number_stretch-run : (b : ℕ) (more : List ℕ) → is_digit b ≡ true →
    is_number_stretch (b ∷ more) ≡ list_all is_number_byte (b ∷ more)
is_number_stretch-run b more h =
    ap (λ t. t && list_all is_number_byte more) (h ∙ sym (digit_goes_on b h))

-- the longest number ends where its letters and digits do
longest_front-c_number : (rest : List ℕ) → 0 < length rest → is_digit (get_or rest 0 0) ≡ true →
    longest_front c_number_form rest ≡ record {
      form = number_if (is_c_number (take (prefix_len is_number_byte rest) rest));
      len =
          prefix_len is_number_byte rest;
    }
longest_front-c_number [] some digit = absurd (omega arith)
longest_front-c_number (b ∷ more) some digit =
    longest_front_run c_number_form is_number_byte (λ front. number_if (is_c_number front)) (b
    ∷ more) (prefix_len-some is_number_byte b more (digit_goes_on b digit)) same
  where
    same : (m : ℕ) → 0 < m → m ≤ length (b ∷ more) →
        c_number_form (take m (b ∷ more)) ≡ form_if (list_all is_number_byte (take m (b ∷ more)))
        (number_if (is_c_number (take m (b ∷ more))))
    same zero some le = absurd (omega arith)
    same (suc j) some le =
        ap (λ t. form_if t (number_if (is_c_number (b ∷ take j more))))
        (is_number_stretch-run b (take j more) digit)

-- the same, by its length and its form
pub c_number_is : (rest : List ℕ) → 0 < length rest → is_digit (get_or rest 0 0) ≡ true → (n : ℕ) →
    n ≡ prefix_len is_number_byte rest → (form : Form) →
    form ≡ number_if (is_c_number (take n rest)) →
    ◌≡◌ {A = Stretch} record { form = form; len = n } (longest_front c_number_form rest)
c_number_is rest some digit n size form is =
    rw (is, size) (sym (longest_front-c_number rest some digit))
