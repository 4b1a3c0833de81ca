use Rattle.std.proofs.Common.{◌≡◌, ℕ, ◌+◌, ◌-◌, ◌<◌, ◌≤◌, Bool, true, false, not, cond, ◌&&◌, ◌||◌}
use Rattle.std.proofs.Common.{zero, suc, List, [], ◌∷◌, length, take, drop, get_or, Option, Some}
use Rattle.std.proofs.Common.{None, refl, ap, sym, ◌∙◌, arith, length-drop, ⊎_elim, subst}
use Rattle.std.specs.Prelude.{nat_lt, nat_le, ◌==◌, codes}
use Rattle.std.specs.List.{list_all, prefix_len}
use Rattle.std.proofs.lemmas.Bool.{cases_lt}
use Rattle.std.proofs.lemmas.Bool.Decides.{nat_tests}
use Rattle.std.proofs.lemmas.List.{take-take, drop-take, drop_all, length-take-le, get_or-take}
use Rattle.std.proofs.lemmas.List.Sums.{prefix_len-le-length}
use Rattle.dpi_lex.specs.declared.form.Form.{Form}
use Rattle.dpi_lex.specs.declared.form.Stretch.{Stretch}
use Rattle.dpi_lex.specs.Bytes.{is_among, is_digit, is_apostrophe}
use Rattle.dpi_lex.specs.Shapes.{form_if}
use Rattle.dpi_lex.specs.Stretches.{IsLongest, HasNone}
use Rattle.dpi_lex.specs.Digits.{number_if}
use Rattle.dpi_lex.specs.SvNumbers.{is_plain_byte, base_of, base_len, is_based_byte, goes_on}
use Rattle.dpi_lex.specs.SvNumbers.{are_based_bytes, IsBasedRun, size_of, after_size, given_base}
use Rattle.dpi_lex.specs.SvNumbers.{given_digits, is_base_and_digits, is_size, are_digits}
use Rattle.dpi_lex.specs.SvNumbers.{based_form}
use Rattle.dpi_lex.proofs.Runs.{list_all-take_within, list_all-take_past}

-- a test over a front, by the run that passes
list_all-take-le : (p : ℕ → Bool) (m : ℕ) (xs : List ℕ) → m ≤ length xs →
    list_all p (take m xs) ≡ nat_le m (prefix_len p xs)
list_all-take-le p m xs le =
    ⊎_elim
    (λ (past : prefix_len p xs < m). list_all-take_past p m xs past le
    ∙ above m (prefix_len p xs) past)
    (λ (within : m ≤ prefix_len p xs). list_all-take_within p m xs within
    ∙ below m (prefix_len p xs) within)
    (cases_lt (prefix_len p xs) m)
  where
    above : (m n : ℕ) → n < m → false ≡ nat_le m n
    above m n h = grind (arith, nat_tests)

    below : (m n : ℕ) → m ≤ n → true ≡ nat_le m n
    below m n h = grind (arith, nat_tests)

le_zero : (n : ℕ) → true ≡ nat_le 0 n
le_zero n = grind (arith, nat_tests)

-- a byte that belongs to a number is there
pub based_byte-some : (rest : List ℕ) → is_based_byte (get_or rest 0 0) ≡ true → 0 < length rest
based_byte-some [] first = cc
based_byte-some (b ∷ more) first = omega arith

-- no digit behind a base
pub IsBasedRun-none : (base : ℕ) (rest : List ℕ) → is_based_byte (get_or rest 0 0) ≡ false →
    IsBasedRun base rest 0
IsBasedRun-none base rest none = record { within = omega arith; run = each rest none }
  where
    each : (rest : List ℕ) → is_based_byte (get_or rest 0 0) ≡ false → (m : ℕ) → m ≤ length rest →
        are_based_bytes base (take m rest) ≡ nat_le m 0
    each rest none zero le = refl
    each [] none (suc m) le = absurd (omega arith)
    each (b ∷ more) none (suc m) le = ap (λ t. t && list_all (goes_on base) (take m more)) none
        ∙ sym (grind (arith, nat_tests))

-- the digits behind a base
pub IsBasedRun-some : (base : ℕ) (rest more : List ℕ) → is_based_byte (get_or rest 0 0) ≡ true →
    more ≡ drop 1 rest → 0 < length rest → (n : ℕ) → n ≡ 1 + prefix_len (goes_on base) more →
    IsBasedRun base rest n
IsBasedRun-some base [] more first from some n is = absurd (omega arith)
IsBasedRun-some base (b ∷ rest) more first from some n is = record {
  within = omega (
    arith,
    prefix_len-le-length (goes_on base) rest,
    ap (prefix_len (goes_on base))
        from,
  );
  run = each;
}
  where
    shift : (m k : ℕ) → n ≡ suc k → nat_le m k ≡ nat_le (suc m) n
    shift m k run = grind (arith, nat_tests)

    each : (m : ℕ) → m ≤ length (b ∷ rest) → are_based_bytes base (take m (b ∷ rest)) ≡ nat_le m n
    each zero le = le_zero n
    each (suc m) le =
        let same : prefix_len (goes_on base) more ≡ prefix_len (goes_on base) rest =
        ap (prefix_len (goes_on base)) from in
        let run : n ≡ suc (prefix_len (goes_on base) rest) = omega arith in
        ap (λ t. t && list_all (goes_on base) (take m rest)) first
        ∙ list_all-take-le (goes_on base) m rest (omega arith)
        ∙ shift m (prefix_len (goes_on base) rest) run

-- the run of a front
pub prefix_len-take_within : (p : ℕ → Bool) (m : ℕ) (xs : List ℕ) → m ≤ prefix_len p xs →
    prefix_len p (take m xs) ≡ m
prefix_len-take_within p zero xs h = refl
prefix_len-take_within p (suc m) [] h = absurd (omega arith)
prefix_len-take_within p (suc m) (x ∷ xs) h =
    elim (p x) as (λ t. suc m ≤ cond t (1 + prefix_len p xs) 0 →
    cond t (1 + prefix_len p (take m xs)) 0 ≡ suc m) [
      | true ↦ λ le. omega (arith, prefix_len-take_within p m xs (omega arith))
      | false ↦ λ le. absurd
          (omega arith)
    ] h

pub prefix_len-take_past : (p : ℕ → Bool) (m : ℕ) (xs : List ℕ) → prefix_len p xs ≤ m →
    prefix_len p (take m xs) ≡ prefix_len p xs
prefix_len-take_past p zero xs h = omega arith
prefix_len-take_past p (suc m) [] h = refl
prefix_len-take_past p (suc m) (x ∷ xs) h =
    elim (p x) as (λ t. cond t (1 + prefix_len p xs) 0 ≤ suc m →
    cond t (1 + prefix_len p (take m xs)) 0 ≡ cond t (1 + prefix_len p xs) 0)
    [ true ↦ λ le. omega (arith, prefix_len-take_past p m xs (omega arith)) | false ↦ λ le. refl ] h

-- the head of a based number, by what its first three bytes are
abbrev head_by : Bool → Bool → Bool → Bool → ℕ
head_by a b c d = cond (not a) 0 (cond b 2 (cond (c && d) 3 0))

front_of_two : (a b c d : Bool) →
    head_by a b c false ≡ cond (nat_le (head_by a b c d) 2) (head_by a b c d) 0
front_of_two false b c d = refl
front_of_two true true c d = refl
front_of_two true false false d = refl
front_of_two true false true true = refl
front_of_two true false true false = refl

front_of_one : (a b c d : Bool) →
    head_by a false false false ≡ cond (nat_le (head_by a b c d) 1) (head_by a b c d) 0
front_of_one false b c d = refl
front_of_one true true c d = refl
front_of_one true false false d = refl
front_of_one true false true true = refl
front_of_one true false true false = refl

front_of_none : (a b c d : Bool) → 0 ≡ cond (nat_le (head_by a b c d) 0) (head_by a b c d) 0
front_of_none false b c d = refl
front_of_none true true c d = refl
front_of_none true false false d = refl
front_of_none true false true true = refl
front_of_none true false true false = refl

head_by-small : (a b c d : Bool) → head_by a b c d ≤ 3
head_by-small false b c d = omega arith
head_by-small true true c d = omega arith
head_by-small true false false d = omega arith
head_by-small true false true true = omega arith
head_by-small true false true false = omega arith

whole : (h j : ℕ) → h ≤ 3 → cond (nat_le h (suc (suc (suc j)))) h 0 ≡ h
whole h j small = let le : nat_le h (suc (suc (suc j))) ≡ true = grind (arith, nat_tests) in
    ap (λ t. cond t h 0) le

-- a front has the whole head, or none
base_len-take : (j : ℕ) (xs : List ℕ) →
    base_len (take j xs) ≡ cond (nat_le (base_len xs) j) (base_len xs) 0
base_len-take zero xs =
    front_of_none (is_apostrophe (get_or xs 0 0)) (nat_lt 0 (base_of (get_or xs 1 0)))
    (is_among (codes "s") (get_or xs 1 0)) (nat_lt 0 (base_of (get_or xs 2 0)))
base_len-take (suc zero) [] = refl
base_len-take (suc zero) (a ∷ more) =
    front_of_one (is_apostrophe a) (nat_lt 0 (base_of (get_or more 0 0)))
    (is_among (codes "s") (get_or more 0 0)) (nat_lt 0 (base_of (get_or more 1 0)))
base_len-take (suc (suc zero)) [] = refl
base_len-take (suc (suc zero)) (a ∷ []) = front_of_two (is_apostrophe a) false false false
base_len-take (suc (suc zero)) (a ∷ b ∷ more) =
    front_of_two (is_apostrophe a) (nat_lt 0 (base_of b)) (is_among (codes "s") b)
    (nat_lt 0 (base_of (get_or more 0 0)))
base_len-take (suc (suc (suc j))) [] = sym (whole 0 j (omega arith))
base_len-take (suc (suc (suc j))) (a ∷ []) =
    sym (whole (base_len (a ∷ [])) j (head_by-small (is_apostrophe a) false false false))
base_len-take (suc (suc (suc j))) (a ∷ b ∷ []) =
    sym (whole (base_len (a ∷ b ∷ [])) j
    (head_by-small (is_apostrophe a) (nat_lt 0 (base_of b)) (is_among (codes "s") b) false))
base_len-take (suc (suc (suc j))) (a ∷ b ∷ c ∷ more) =
    sym (whole (base_len (a ∷ b ∷ c ∷ more)) j
    (head_by-small (is_apostrophe a) (nat_lt 0 (base_of b)) (is_among (codes "s") b)
    (nat_lt 0 (base_of c))))

-- the form of a size and what follows it
abbrev based_by : List ℕ → List ℕ → Option Form
based_by size after =
    form_if ((length size == 0 || is_digit (get_or size 0 0)) && is_base_and_digits after)
    (number_if (is_size size && are_digits (given_base after) (given_digits after)))

second_false : (p : Bool) → (p && false) ≡ false
second_false true = refl
second_false false = refl

-- no base, no based number
based_by-none : (size after : List ℕ) → base_len after ≡ 0 → based_by size after ≡ None
based_by-none size after none =
    let n : Form = number_if (is_size size && are_digits (given_base after) (given_digits after)) in
    ap (λ h. form_if ((length size == 0 || is_digit (get_or size 0 0)) &&
    (nat_lt 0 h && are_based_bytes (given_base after) (given_digits after))) n) none
    ∙ ap (λ t. form_if t n) (second_false (length size == 0 || is_digit (get_or size 0 0)))

-- a front within the size
based_form-take_within : (rest : List ℕ) (m : ℕ) → m ≤ prefix_len is_plain_byte rest →
    based_form (take m rest) ≡ None
based_form-take_within rest m le =
    let size : prefix_len is_plain_byte (take m rest) ≡ m =
    prefix_len-take_within is_plain_byte m rest le in
    let short : length (take m rest) ≡ m =
    length-take-le m rest (omega (arith, prefix_len-le-length is_plain_byte rest)) in
    let none : after_size (take m rest) ≡ [] =
    drop_all (prefix_len is_plain_byte (take m rest)) (take m rest) (omega arith) in
    based_by-none (size_of (take m rest)) (after_size (take m rest)) (ap base_len none)

-- a front past the size
based_form-take_past : (rest : List ℕ) (j : ℕ) →
    based_form (take (prefix_len is_plain_byte rest + j) rest) ≡ based_by (size_of rest)
    (take j (after_size rest))
based_form-take_past rest j =
    let n : ℕ = prefix_len is_plain_byte rest in
    let front : List ℕ = take (n + j) rest in
    let run : prefix_len is_plain_byte front ≡ n =
    prefix_len-take_past is_plain_byte (n + j) rest (omega arith) in
    let size : size_of front ≡ size_of rest = ap (λ k. take k front) run
    ∙ take-take n (n + j) rest (omega arith) in
    let after : after_size front ≡ take j (after_size rest) = ap (λ k. drop k front) run
    ∙ drop-take n j rest in
    ap (λ s. based_by s (after_size front)) size ∙ ap (based_by (size_of rest)) after

-- where a base follows the size, by how many bytes of it a front has
based_by-take : (size after : List ℕ) (j : ℕ) → 0 < base_len after → base_len after ≤ j →
    (length size == 0 || is_digit (get_or size 0 0)) ≡ true →
    based_by size (take j after) ≡ form_if
    (are_based_bytes (given_base after) (take (j - base_len after) (given_digits after)))
    (number_if (is_size size && are_digits (given_base after)
    (take (j - base_len after) (given_digits after))))
based_by-take size after j some le starts =
    let h : ℕ = base_len after in
    let in_front : nat_le h j ≡ true = grind (arith, nat_tests) in
    let head : base_len (take j after) ≡ h = base_len-take j after
    ∙ ap (λ t. cond t h 0) in_front in
    let base : given_base (take j after) ≡ given_base after =
    ap (λ k. base_of (get_or (take j after) (k - 1) 0)) head
    ∙ ap base_of (get_or-take j after (h - 1) 0 (omega arith)) in
    let sum : h + (j - h) ≡ j = omega arith in
    let digits : given_digits (take j after) ≡ take (j - h) (given_digits after) =
    ap (λ k. drop k (take j after)) head ∙ ap (λ k. drop h (take k after)) (sym sum)
    ∙ drop-take h (j - h) after in
    let positive : nat_lt 0 (base_len (take j after)) ≡ true = ap (nat_lt 0) head ∙ above h some in
    ap (λ t. form_if (t && is_base_and_digits (take j after))
    (number_if (is_size size && are_digits (given_base (take j after))
    (given_digits (take j after))))) starts
    ∙ ap (λ t. form_if (t && are_based_bytes (given_base (take j after))
    (given_digits (take j after)))
    (number_if (is_size size && are_digits (given_base (take j after))
    (given_digits (take j after))))) positive
    ∙ ap (λ b. form_if (are_based_bytes b (given_digits (take j after)))
    (number_if (is_size size && are_digits b (given_digits (take j after))))) base
    ∙ ap (λ ds. form_if (are_based_bytes (given_base after) ds)
    (number_if (is_size size && are_digits (given_base after) ds))) digits
  where
    above : (h : ℕ) → 0 < h → nat_lt 0 h ≡ true
    above h some = grind (arith, nat_tests)

-- no based number where no base follows the size
pub based_form-none : (rest after : List ℕ) → after ≡ after_size rest → base_len after ≡ 0 →
    HasNone based_form rest
based_form-none rest after from none m le =
    ⊎_elim
    (λ (past : prefix_len is_plain_byte rest < m). let is : m ≡ prefix_len is_plain_byte rest +
    (m - prefix_len is_plain_byte rest) = omega arith in
    ap (λ k. based_form (take k rest)) is
    ∙ based_form-take_past rest (m - prefix_len is_plain_byte rest)
    ∙ based_by-none (size_of rest) (take (m - prefix_len is_plain_byte rest) (after_size rest))
    (no_head (m - prefix_len is_plain_byte rest)))
    (λ (within : m ≤ prefix_len is_plain_byte rest). based_form-take_within rest m within)
    (cases_lt (prefix_len is_plain_byte rest) m)
  where
    either : (t : Bool) → ◌≡◌ {A = ℕ} (cond t 0 0) 0
    either true = refl
    either false = refl

    no_head : (j : ℕ) → base_len (take j (after_size rest)) ≡ 0
    no_head j =
        let whole_none : base_len (after_size rest) ≡ 0 = ap base_len (sym from) ∙ none in
        base_len-take j (after_size rest) ∙ ap (λ h. cond (nat_le h j) h 0) whole_none
        ∙ either (nat_le 0 j)

-- the based number ends where its digits do
longest_based : (rest : List ℕ) → 0 < base_len (after_size rest) →
    base_len (after_size rest) ≤ length (after_size rest) →
    (length (size_of rest) == 0 || is_digit (get_or (size_of rest) 0 0)) ≡ true → (r : ℕ) →
    IsBasedRun (given_base (after_size rest)) (given_digits (after_size rest)) r → (s : Stretch) →
    s.len ≡ prefix_len is_plain_byte rest + base_len (after_size rest) + r →
    s.form ≡ number_if (is_size (size_of rest) && are_digits (given_base (after_size rest))
    (take r (given_digits (after_size rest)))) → IsLongest based_form rest s
longest_based rest some within starts r run s len form =
    let n : ℕ = prefix_len is_plain_byte rest in
    let after : List ℕ = after_size rest in
    let h : ℕ = base_len after in
    let base : ℕ = given_base after in
    let digits : List ℕ = given_digits after in
    let in_rest : n ≤ length rest = prefix_len-le-length is_plain_byte rest in
    let sizes : length digits ≡ length rest - n - h =
    omega (arith, length-drop h after, length-drop n rest) in
    let size : length after ≡ length rest - n = length-drop n rest in
    let whole : s.len ≡ n + (h + r) = omega arith in
    let back : h + r - h ≡ r = omega arith in
    let good : ℕ → Form =
    λ k. number_if (is_size (size_of rest) && are_digits base (take k digits)) in
    record {
      some = omega arith;
      within = omega (arith, run.within);
      is =
          ap (λ k. based_form (take k rest)) whole
          ∙ based_form-take_past rest (h + r)
          ∙ based_by-take (size_of rest) after (h + r) some (omega arith) starts
          ∙ ap (λ k. form_if (are_based_bytes base (take k digits)) (good k)) back
          ∙ ap (λ t. form_if t (good r)) (run.run r run.within ∙ le_self r)
          ∙ ap (λ f. Some f) (sym form);
      longer = λ m past le. longer (m - n) m (omega arith) (omega arith) (omega (arith, sizes));
    }
  where
    le_self : (r : ℕ) → nat_le r r ≡ true
    le_self r = grind (arith, nat_tests)

    above : (k : ℕ) → r < k → nat_le k r ≡ false
    above k lt = grind (arith, nat_tests)

    longer : (j m : ℕ) → m ≡ prefix_len is_plain_byte rest + j →
        base_len (after_size rest) + r < j →
        j - base_len (after_size rest) ≤ length (given_digits (after_size rest)) →
        based_form (take m rest) ≡ None
    longer j m is past le =
        let after : List ℕ = after_size rest in
        let k : ℕ = j - base_len after in
        let digits : List ℕ = given_digits after in
        ap (λ l. based_form (take l rest)) is
        ∙ based_form-take_past rest j
        ∙ based_by-take (size_of rest) after j some (omega arith) starts
        ∙ ap (λ t. form_if t (number_if
        (is_size (size_of rest) && are_digits (given_base after) (take k digits))))
        (run.run k le ∙ above k (omega arith))

pub based_form-longest : (rest after : List ℕ) → after ≡ after_size rest → 0 < base_len after →
    base_len after ≤ length after →
    (length (size_of rest) == 0 || is_digit (get_or (size_of rest) 0 0)) ≡ true → (r : ℕ) →
    IsBasedRun (given_base after) (given_digits after) r → (s : Stretch) →
    s.len ≡ prefix_len is_plain_byte rest + base_len after + r →
    s.form ≡ number_if (is_size (size_of rest) && are_digits (given_base after)
    (take r (given_digits after))) → IsLongest based_form rest s
based_form-longest rest after from =
    let P : List ℕ → Type 0 = λ a. 0 < base_len a → base_len a ≤ length a →
    (length (size_of rest) == 0 || is_digit (get_or (size_of rest) 0 0)) ≡ true → (r : ℕ) →
    IsBasedRun (given_base a) (given_digits a) r → (s : Stretch) →
    s.len ≡ prefix_len is_plain_byte rest + base_len a + r →
    s.form ≡ number_if (is_size (size_of rest) && are_digits (given_base a)
    (take r (given_digits a))) → IsLongest based_form rest s in
    subst P (sym from) (longest_based rest)

-- what begins with a digit or a `'` has no size, or one that begins with a digit
pub size_starts : (rest : List ℕ) →
    (is_digit (get_or rest 0 0) || is_apostrophe (get_or rest 0 0)) ≡ true →
    (length (size_of rest) == 0 || is_digit (get_or (size_of rest) 0 0)) ≡ true
size_starts [] h = refl
size_starts (b ∷ more) h =
    elim (is_plain_byte b) as (λ t. is_plain_byte b ≡ t →
    (length (take (cond t (1 + prefix_len is_plain_byte more) 0) (b ∷ more)) == 0 || is_digit
    (get_or (take (cond t (1 + prefix_len is_plain_byte more) 0) (b ∷ more)) 0 0)) ≡ true) [
      | true ↦
          λ plain.
          let digit : is_digit b ≡ true = grind (arith, nat_tests) in
          let is : 1 + prefix_len is_plain_byte more ≡ suc (prefix_len is_plain_byte more) =
          omega arith in
          ap (λ k. length (take k (b ∷ more)) == 0 || is_digit (get_or (take k (b ∷ more)) 0 0)) is
          ∙ ap (λ t. length (b ∷ take (prefix_len is_plain_byte more) more) == 0 || t) digit
          ∙ or_true (length (b ∷ take (prefix_len is_plain_byte more) more) == 0)
      | false ↦ λ plain. refl
    ] refl
  where
    or_true : (t : Bool) → (t || true) ≡ true
    or_true true = refl
    or_true false = refl

-- what begins with neither a digit nor a `'` is no based number
pub no_based : (b : ℕ) (more : List ℕ) → is_digit b ≡ false → is_apostrophe b ≡ false →
    based_form (b ∷ more) ≡ None
no_based b more digit quote =
    elim (is_plain_byte b)
    as (λ t. based_by (take (cond t (1 + prefix_len is_plain_byte more) 0) (b ∷ more))
    (drop (cond t (1 + prefix_len is_plain_byte more) 0) (b ∷ more)) ≡ None) [
      | true ↦
          let k : ℕ = prefix_len is_plain_byte more in
          let is : 1 + k ≡ suc k = omega arith in
          let long : (length (b ∷ take k more) == 0) ≡ false = not_empty (length (take k more)) in
          let form : Form = number_if
          (is_size (b ∷ take k more) && are_digits (given_base (drop k more))
          (given_digits (drop k more))) in
          ap (λ n. based_by (take n (b ∷ more)) (drop n (b ∷ more))) is
          ∙ ap (λ t. form_if ((t || is_digit b) && is_base_and_digits (drop k more)) form) long
          ∙ ap (λ t. form_if (t && is_base_and_digits (drop k more)) form) digit
      | false ↦ based_by-none [] (b ∷ more)
          (ap (λ t. cond (not t) 0
          (cond (nat_lt 0 (base_of (get_or more 0 0))) 2
          (cond (is_among (codes "s") (get_or more 0 0) && nat_lt 0 (base_of (get_or more 1 0))) 3
          0))) quote)
    ]
  where
    not_empty : (n : ℕ) → (suc n == 0) ≡ false
    not_empty n = grind (arith, nat_tests)
