use Rattle.std.proofs.Common.{◌≡◌, ℕ, ◌+◌, ◌<◌, ◌≤◌, Bool, true, false, ◌&&◌, zero, suc, List, []}
use Rattle.std.proofs.Common.{◌∷◌, length, take, get_or, Some, None, refl, ap, sym, ◌∙◌, arith}
use Rattle.std.specs.Prelude.{nat_lt, codes}
use Rattle.std.specs.List.{list_all, prefix_len}
use Rattle.std.proofs.lemmas.Bool.Decides.{nat_tests}
use Rattle.std.proofs.lemmas.List.{length-take-le}
use Rattle.dpi_lex.specs.declared.form.Form.{Form}
use Rattle.dpi_lex.specs.declared.form.Form.TheVariants.{Whole}
use Rattle.dpi_lex.specs.declared.form.Stretch.{Stretch}
use Rattle.dpi_lex.specs.declared.token.Kind.TheVariants.{Number, Sign}
use Rattle.dpi_lex.specs.Bytes.{is_among, is_digit, is_apostrophe}
use Rattle.dpi_lex.specs.Shapes.{form_if, is_listed}
use Rattle.dpi_lex.specs.Stretches.{longest_front, IsLongest, HasNone}
use Rattle.dpi_lex.specs.Digits.{number_if}
use Rattle.dpi_lex.specs.SvNumbers.{is_plain_byte, is_plain_stretch, is_plain_number, based_form}
use Rattle.dpi_lex.specs.SvNumbers.{is_fill, sv_number_form}
use Rattle.dpi_lex.specs.SystemVerilog.{sv_signs, sv_long_signs, sv_short_signs, apostrophe_form}
use Rattle.dpi_lex.proofs.Classes.{option_or-none}
use Rattle.dpi_lex.proofs.Fronts.{is_listed-not}
use Rattle.dpi_lex.proofs.Longest.{longest_is, longest_past, longest_same, longest-from}
use Rattle.dpi_lex.proofs.Runs.{longest_front_run, prefix_len-some, list_all-take_past}

digit_is_plain : (b : ℕ) → is_digit b ≡ true → is_plain_byte b ≡ true
digit_is_plain b h = rw h refl

digit_no_apostrophe : (b : ℕ) → is_digit b ≡ true → is_apostrophe b ≡ false
digit_no_apostrophe b h = grind (arith, nat_tests)

plain_stretch-run : (b : ℕ) (more : List ℕ) → is_digit b ≡ true →
    is_plain_stretch (b ∷ more) ≡ list_all is_plain_byte (b ∷ more)
plain_stretch-run b more h =
    ap (λ t. t && list_all is_plain_byte more) (h ∙ sym (digit_is_plain b h))

pub no_fill : (b : ℕ) (more : List ℕ) → is_apostrophe b ≡ false →
    form_if (is_fill (b ∷ more)) (Whole Number) ≡ None
no_fill b [] h = refl
no_fill b (c ∷ []) h = ap (λ t. form_if (t && is_among (codes "01xz") c) (Whole Number)) h
no_fill b (c ∷ d ∷ more) h = refl

-- where a based number is at the front, behind a digit
pub longest_front-based : (rest : List ℕ) → 0 < length rest → is_digit (get_or rest 0 0) ≡ true →
    (s : Stretch) → IsLongest based_form rest s → prefix_len is_plain_byte rest + 1 < s.len →
    longest_front sv_number_form rest ≡ s
longest_front-based [] some digit s based past = absurd (omega arith)
longest_front-based (b ∷ more) some digit s based past =
    let longest : longest_front based_form (b ∷ more) ≡ s =
    longest-from based_form (b ∷ more) s based in
    longest_past (λ m. based_form (take m (b ∷ more))) (λ m. sv_number_form (take m (b ∷ more)))
    (length (b ∷ more)) (prefix_len is_plain_byte (b ∷ more))
    (prefix_len-some is_plain_byte b more (digit_is_plain b digit)) (rw longest (omega arith))
    same
    ∙ longest
  where
    same : (m : ℕ) → prefix_len is_plain_byte (b ∷ more) < m → m ≤ length (b ∷ more) →
        sv_number_form (take m (b ∷ more)) ≡ based_form (take m (b ∷ more))
    same zero lt le = absurd (omega arith)
    same (suc j) lt le =
        let plain : form_if (is_plain_stretch (b ∷ take j more))
        (number_if (is_plain_number (b ∷ take j more))) ≡ None =
        ap (λ t. form_if t (number_if (is_plain_number (b ∷ take j more))))
        (plain_stretch-run b (take j more) digit
        ∙ list_all-take_past is_plain_byte (suc j) (b ∷ more) lt le) in
        let fill : form_if (is_fill (b ∷ take j more)) (Whole Number) ≡ None =
        no_fill b (take j more) (digit_no_apostrophe b digit) in
        rw (plain, fill) (option_or-none (based_form (b ∷ take j more)))

-- where none is, a plain number is
pub longest_front-plain : (rest : List ℕ) → 0 < length rest → is_digit (get_or rest 0 0) ≡ true →
    HasNone based_form rest →
    longest_front sv_number_form rest ≡ record {
      form = number_if (is_plain_number (take (prefix_len is_plain_byte rest) rest));
      len =
          prefix_len is_plain_byte rest;
    }
longest_front-plain [] some digit none = absurd (omega arith)
longest_front-plain (b ∷ more) some digit none =
    longest_front_run sv_number_form is_plain_byte (λ front. number_if (is_plain_number front)) (b
    ∷ more) (prefix_len-some is_plain_byte b more (digit_is_plain b digit)) same
  where
    same : (m : ℕ) → 0 < m → m ≤ length (b ∷ more) →
        sv_number_form (take m (b ∷ more)) ≡ form_if (list_all is_plain_byte (take m (b ∷ more)))
        (number_if (is_plain_number (take m (b ∷ more))))
    same zero some le = absurd (omega arith)
    same (suc j) some le =
        let based : based_form (b ∷ take j more) ≡ None = none (suc j) le in
        let fill : form_if (is_fill (b ∷ take j more)) (Whole Number) ≡ None =
        no_fill b (take j more) (digit_no_apostrophe b digit) in
        rw
        (based, fill)
        (option_or-none (form_if (is_plain_stretch (b ∷ take j more))
        (number_if (is_plain_number (b ∷ take j more))))
        ∙ ap (λ t. form_if t (number_if (is_plain_number (b ∷ take j more))))
        (plain_stretch-run b (take j more) digit))

-- the same, by its length and its form
pub plain_is : (rest : List ℕ) → 0 < length rest → is_digit (get_or rest 0 0) ≡ true →
    HasNone based_form rest → (n : ℕ) → n ≡ prefix_len is_plain_byte rest → (form : Form) →
    form ≡ number_if (is_plain_number (take n rest)) →
    ◌≡◌ {A = Stretch} record { form = form; len = n } (longest_front sv_number_form rest)
plain_is rest some digit none n size form is =
    rw (is, size) (sym (longest_front-plain rest some digit none))

apostrophe_no_digit : (b : ℕ) → is_apostrophe b ≡ true → is_digit b ≡ false
apostrophe_no_digit b h = grind (arith, nat_tests)

pub no_plain : (b : ℕ) (more : List ℕ) → is_digit b ≡ false →
    form_if (is_plain_stretch (b ∷ more)) (number_if (is_plain_number (b ∷ more))) ≡ None
no_plain b more h = ap
    (λ t. form_if (t && list_all is_plain_byte more) (number_if (is_plain_number (b ∷ more)))) h

-- a sign that begins with a `'` has at most two bytes
no_long_sign : (b : ℕ) (more : List ℕ) → is_apostrophe b ≡ true → 1 < length more →
    form_if (is_listed sv_signs (b ∷ more)) (Whole Sign) ≡ None
unfolding sv_signs sv_long_signs sv_short_signs
no_long_sign b more h long =
    ap (λ t. form_if t (Whole Sign))
    (is_listed-not (λ t. is_apostrophe (get_or t 0 0) && nat_lt 2 (length t)) sv_signs (b
    ∷ more) refl (both_true (is_apostrophe b) (nat_lt 2 (suc (length more))) h
    (above (length more) long)))
  where
    both_true : (p q : Bool) → p ≡ true → q ≡ true → (p && q) ≡ true
    both_true p q x y = rw (x, y) refl

    above : (n : ℕ) → 1 < n → nat_lt 2 (suc n) ≡ true
    above n lt = grind (arith, nat_tests)

no_long_fill : (b : ℕ) (more : List ℕ) → 1 < length more →
    form_if (is_fill (b ∷ more)) (Whole Number) ≡ None
no_long_fill b [] long = absurd (omega arith)
no_long_fill b (c ∷ []) long = absurd (omega arith)
no_long_fill b (c ∷ d ∷ more) long = refl

-- past two bytes only a based number can begin with a `'`
apostrophe_form-long : (b : ℕ) (more : List ℕ) → is_apostrophe b ≡ true → 1 < length more →
    based_form (b ∷ more) ≡ None → apostrophe_form (b ∷ more) ≡ None
apostrophe_form-long b more h long based =
    let plain : form_if (is_plain_stretch (b ∷ more)) (number_if (is_plain_number (b ∷ more))) ≡
    None = no_plain b more (apostrophe_no_digit b h) in
    let fill : form_if (is_fill (b ∷ more)) (Whole Number) ≡ None = no_long_fill b more long in
    let sign : form_if (is_listed sv_signs (b ∷ more)) (Whole Sign) ≡ None =
    no_long_sign b more h long in
    rw (plain, based, fill, sign) refl

-- a based number without a size
pub longest_front-unsized : (rest : List ℕ) → is_apostrophe (get_or rest 0 0) ≡ true →
    (s : Stretch) → IsLongest based_form rest s → 1 < s.len → longest_front apostrophe_form rest ≡ s
longest_front-unsized rest quote s based past =
    longest_is (λ m. apostrophe_form (take m rest)) (length rest) s.len s.form based.some
    based.within (here rest quote based.some based.is)
    (λ m more le. longer rest m quote more le (based.longer m more le))
  where
    at_front : (b : ℕ) (rest : List ℕ) (n : ℕ) → is_apostrophe b ≡ true → 0 < n →
        based_form (take n (b ∷ rest)) ≡ Some s.form →
        apostrophe_form (take n (b ∷ rest)) ≡ Some s.form
    at_front b rest zero quote some is = absurd (omega arith)
    at_front b rest (suc n) quote some is =
        let plain : form_if (is_plain_stretch (b ∷ take n rest))
        (number_if (is_plain_number (b ∷ take n rest))) ≡ None =
        no_plain b (take n rest) (apostrophe_no_digit b quote) in
        rw (plain, is) refl

    here : (rest : List ℕ) → is_apostrophe (get_or rest 0 0) ≡ true → 0 < s.len →
        based_form (take s.len rest) ≡ Some s.form → apostrophe_form (take s.len rest) ≡ Some s.form
    here [] quote some is = cc
    here (b ∷ rest) quote some is = at_front b rest s.len quote some is

    longer : (rest : List ℕ) (m : ℕ) → is_apostrophe (get_or rest 0 0) ≡ true → s.len < m →
        m ≤ length rest → based_form (take m rest) ≡ None → apostrophe_form (take m rest) ≡ None
    longer [] m quote more le none = absurd (omega arith)
    longer (b ∷ rest) zero quote more le none = absurd (omega arith)
    longer (b ∷ rest) (suc j) quote more le none =
        apostrophe_form-long b (take j rest) quote
        (omega (arith, length-take-le j rest (omega arith))) none

-- a fill
pub longest_front-fill : (rest : List ℕ) → is_apostrophe (get_or rest 0 0) ≡ true →
    is_among (codes "01xz") (get_or rest 1 0) ≡ true → HasNone based_form rest →
    longest_front apostrophe_form rest ≡ record { form = Whole Number; len = 2 }
longest_front-fill [] quote letter none = cc
longest_front-fill (b ∷ []) quote letter none = cc
longest_front-fill (b ∷ c ∷ more) quote letter none =
    longest_is (λ m. apostrophe_form (take m (b ∷ c ∷ more))) (length (b ∷ c ∷ more)) 2
    (Whole Number) (omega arith) (omega arith) here longer
  where
    here : apostrophe_form (b ∷ c ∷ []) ≡ Some (Whole Number)
    here =
        let plain : form_if (is_plain_stretch (b ∷ c ∷ []))
        (number_if (is_plain_number (b ∷ c ∷ []))) ≡ None =
        no_plain b (c ∷ []) (apostrophe_no_digit b quote) in
        let based : based_form (b ∷ c ∷ []) ≡ None = none 2 (omega arith) in
        let fill : form_if (is_fill (b ∷ c ∷ [])) (Whole Number) ≡ Some (Whole Number) =
        ap (λ t. form_if (t && is_among (codes "01xz") c) (Whole Number)) quote
        ∙ ap (λ t. form_if t (Whole Number)) letter in
        rw (plain, based, fill) refl

    longer : (m : ℕ) → 2 < m → m ≤ length (b ∷ c ∷ more) →
        apostrophe_form (take m (b ∷ c ∷ more)) ≡ None
    longer zero lt le = absurd (omega arith)
    longer (suc j) lt le =
        apostrophe_form-long b (take j (c ∷ more)) quote
        (omega (arith, length-take-le j (c ∷ more) (omega arith))) (none (suc j) le)

-- a sign
pub longest_front-apostrophe : (rest : List ℕ) → is_apostrophe (get_or rest 0 0) ≡ true →
    is_among (codes "01xz") (get_or rest 1 0) ≡ false → HasNone based_form rest →
    longest_front apostrophe_form rest ≡ longest_front
    (λ front. form_if (is_listed sv_signs front) (Whole Sign)) rest
longest_front-apostrophe rest quote letter none =
    longest_same (λ m. apostrophe_form (take m rest))
    (λ m. form_if (is_listed sv_signs (take m rest)) (Whole Sign)) (length rest)
    (λ m some le. each rest m quote letter some le (none m le))
  where
    second_false : (p : Bool) → (p && false) ≡ false
    second_false true = refl
    second_false false = refl

    fill_none : (b : ℕ) (more : List ℕ) (j : ℕ) →
        is_among (codes "01xz") (get_or more 0 0) ≡ false →
        form_if (is_fill (b ∷ take j more)) (Whole Number) ≡ None
    fill_none b more zero letter = refl
    fill_none b [] (suc j) letter = refl
    fill_none b (c ∷ []) (suc zero) letter =
        ap (λ t. form_if (is_apostrophe b && t) (Whole Number)) letter
        ∙ ap (λ t. form_if t (Whole Number)) (second_false (is_apostrophe b))
    fill_none b (c ∷ []) (suc (suc j)) letter =
        ap (λ t. form_if (is_apostrophe b && t) (Whole Number)) letter
        ∙ ap (λ t. form_if t (Whole Number)) (second_false (is_apostrophe b))
    fill_none b (c ∷ d ∷ more) (suc zero) letter =
        ap (λ t. form_if (is_apostrophe b && t) (Whole Number)) letter
        ∙ ap (λ t. form_if t (Whole Number)) (second_false (is_apostrophe b))
    fill_none b (c ∷ d ∷ more) (suc (suc j)) letter = refl

    each : (rest : List ℕ) (m : ℕ) → is_apostrophe (get_or rest 0 0) ≡ true →
        is_among (codes "01xz") (get_or rest 1 0) ≡ false → 0 < m → m ≤ length rest →
        based_form (take m rest) ≡ None →
        apostrophe_form (take m rest) ≡ form_if (is_listed sv_signs (take m rest)) (Whole Sign)
    each [] m quote letter some le based = absurd (omega arith)
    each (b ∷ more) zero quote letter some le based = absurd (omega arith)
    each (b ∷ more) (suc j) quote letter some le based =
        let plain : form_if (is_plain_stretch (b ∷ take j more))
        (number_if (is_plain_number (b ∷ take j more))) ≡ None =
        no_plain b (take j more) (apostrophe_no_digit b quote) in
        let fill : form_if (is_fill (b ∷ take j more)) (Whole Number) ≡ None =
        fill_none b more j letter in
        rw (plain, based, fill)
        (option_or-none (form_if (is_listed sv_signs (b ∷ take j more)) (Whole Sign)))
