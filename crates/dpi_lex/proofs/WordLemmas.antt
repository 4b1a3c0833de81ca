use Rattle.std.proofs.Common.{◌≡◌, ℕ, ◌<◌, ◌≤◌, true, ◌&&◌, zero, suc, List, []}
use Rattle.std.proofs.Common.{◌∷◌, length, take, refl, ap, sym, ◌∙◌, arith}
use Rattle.std.proofs.Common.{get_or}
use Rattle.std.specs.List.{list_all, prefix_len}
use Rattle.dpi_lex.specs.declared.form.Form.TheVariants.{Whole}
use Rattle.dpi_lex.specs.declared.language.Language.{Language}
use Rattle.dpi_lex.specs.declared.language.Language.TheVariants.{SystemVerilog, C}
use Rattle.dpi_lex.specs.declared.token.Kind.TheVariants.{Word}
use Rattle.dpi_lex.specs.Bytes.{is_name_start, is_name_byte}
use Rattle.dpi_lex.specs.Shapes.{form_if, is_name}
use Rattle.dpi_lex.specs.Stretches.{longest_front}
use Rattle.dpi_lex.proofs.Runs.{prefix_len-some, longest_front_run}

-- what a name begins with may stand in it
name_goes_on : (l : Language) (b : ℕ) → is_name_start b ≡ true → (is_name_byte l) b ≡ true
name_goes_on SystemVerilog b h = rw h refl
name_goes_on C b h = rw h refl

-- a name that begins with such a byte is a run of a name's bytes
is_name-run : (l : Language) (b : ℕ) (more : List ℕ) → is_name_start b ≡ true →
    is_name (is_name_byte l) (b ∷ more) ≡ list_all (is_name_byte l) (b ∷ more)
is_name-run l b more h =
    ap (λ t. t && list_all (is_name_byte l) more) (h ∙ sym (name_goes_on l b h))

-- the longest name ends where its bytes do
pub longest_front-name : (l : Language) (rest : List ℕ) → 0 < length rest →
    is_name_start (get_or rest 0 0) ≡ true →
    longest_front (λ front. form_if (is_name (is_name_byte l) front) (Whole Word)) rest ≡ record
    { form = Whole Word; len = prefix_len (is_name_byte l) rest }
longest_front-name l [] some start = absurd (omega arith)
longest_front-name l (b ∷ more) some start =
    longest_front_run
    (λ front. form_if (is_name (is_name_byte l) front) (Whole Word))
    (is_name_byte l)
    (λ front. Whole Word)
    (b ∷ more)
    (prefix_len-some (is_name_byte l) b more (name_goes_on l b start))
    (same_run b more start)
  where
    same_run : (b : ℕ) (more : List ℕ) → is_name_start b ≡ true → (m : ℕ) → 0 < m →
        m ≤ length (b ∷ more) →
        form_if (is_name (is_name_byte l) (take m (b ∷ more))) (Whole Word) ≡ form_if
        (list_all (is_name_byte l) (take m (b ∷ more))) (Whole Word)
    same_run b more start zero some within = absurd (omega arith)
    same_run b more start (suc j) some within =
        ap (λ t. form_if t (Whole Word)) (is_name-run l b (take j more) start)
