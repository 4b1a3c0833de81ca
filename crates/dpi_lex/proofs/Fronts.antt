use Rattle.std.proofs.Common.{◌++◌, get_or}
use Rattle.std.proofs.lemmas.List.{get_or-take}
use Rattle.std.proofs.Common.{◌≡◌, ℕ, ◌<◌, ◌≤◌, Bool, true, false, not, cond, ◌&&◌, ◌||◌, List, []}
use Rattle.std.proofs.Common.{◌∷◌, length, take, None, refl, ap, sym, ◌∙◌, arith}
use Rattle.std.specs.Prelude.{nat_eq, nat_le, ◌==◌}
use Rattle.std.specs.List.{list_all, prefix_len, starts_with}
use Rattle.std.proofs.lemmas.Bool.Decides.{nat_tests}
use Rattle.std.proofs.lemmas.List.{take-take, length-take-le, length-take}
use Rattle.std.proofs.lemmas.List.Sums.{prefix_len-le-length}
use lib.Pointwise.{pointwise}
use Rattle.dpi_lex.specs.declared.form.Form.TheVariants.{Skipped, Whole}
use Rattle.dpi_lex.specs.declared.token.Kind.{Kind}
use Rattle.dpi_lex.specs.Listed.{listed, listed_stretch, falls}
use Rattle.dpi_lex.specs.Place.{is_line_feed}
use Rattle.dpi_lex.specs.Bytes.{is_among}
use Rattle.dpi_lex.specs.Shapes.{form_if, is_line_of, is_listed, singles}
use Rattle.dpi_lex.specs.Stretches.{longest_front, bad_byte}
use Rattle.dpi_lex.proofs.Longest.{longest_is, longest_none, longest_same}
use Rattle.dpi_lex.proofs.Runs.{list_all-take_within, list_all-take_past}

nat_eq-same : (a b : ℕ) → nat_eq a b ≡ true → a ≡ b
nat_eq-same a b h = grind (arith, nat_tests)

nat_eq-refl : (a : ℕ) → nat_eq a a ≡ true
nat_eq-refl a = grind (arith, nat_tests)

first_true : (p q : Bool) → (p && q) ≡ true → p ≡ true
first_true true q h = refl
first_true false q h = h

second_true : (p q : Bool) → (p && q) ≡ true → q ≡ true
second_true true q h = h
second_true false q h = cc

-- equal byte by byte is equal
pub pointwise-same : (xs ys : List ℕ) → pointwise nat_eq xs ys ≡ true → xs ≡ ys
pointwise-same [] [] h = refl
pointwise-same [] (y ∷ ys) h = cc
pointwise-same (x ∷ xs) [] h = cc
pointwise-same (x ∷ xs) (y ∷ ys) h =
    let first : x ≡ y = nat_eq-same x y (first_true (nat_eq x y) (pointwise nat_eq xs ys) h) in
    let rest : xs ≡ ys = pointwise-same xs ys (second_true (nat_eq x y) (pointwise nat_eq xs ys) h)
    in
    cc

pub pointwise-refl : (xs : List ℕ) → pointwise nat_eq xs xs ≡ true
pointwise-refl [] = refl
pointwise-refl (x ∷ xs) = ap (λ t. t && pointwise nat_eq xs xs) (nat_eq-refl x) ∙ pointwise-refl xs

-- a text at the front, cut out
pub starts_with-take : (rest text : List ℕ) → starts_with nat_eq rest text ≡ true →
    text ≡ take (length text) rest
starts_with-take rest text h = pointwise-same text (take (length text) rest) h

starts_with-from_take : (rest text : List ℕ) → text ≡ take (length text) rest →
    starts_with nat_eq rest text ≡ true
starts_with-from_take rest text h = ap (pointwise nat_eq text) (sym h) ∙ pointwise-refl text

starts_with-length : (rest text : List ℕ) → starts_with nat_eq rest text ≡ true →
    length text ≤ length rest
starts_with-length rest text h =
    omega (arith, ap length (starts_with-take rest text h), length-take (length text) rest)

abbrev pub stays : ℕ → Bool
stays b = not (is_line_feed b)

-- a text of one line at the front is part of the line
pub line-past : (text rest : List ℕ) → list_all stays text ≡ true →
    starts_with nat_eq rest text ≡ true → length text ≤ prefix_len stays rest
line-past text rest one_line starts =
    elim (nat_le (length text) (prefix_len stays rest))
    as (λ t. nat_le (length text) (prefix_len stays rest) ≡ t →
    length text ≤ prefix_len stays rest) [
      | true ↦ λ h. grind (arith, nat_tests)
      | false ↦ λ h. absurd (broken (grind (arith, nat_tests)))
    ] refl
  where
    broken : prefix_len stays rest < length text → ⊥
    broken past =
        let fails : list_all stays text ≡ false =
        ap (list_all stays) (starts_with-take rest text starts)
        ∙ list_all-take_past stays (length text) rest past (starts_with-length rest text starts)
        in
        cc

-- the rest of the line is the longest such stretch
pub longest_front-line : (text rest : List ℕ) → 0 < length text → list_all stays text ≡ true →
    starts_with nat_eq rest text ≡ true →
    longest_front (λ front. form_if (is_line_of text front) Skipped) rest ≡ record
    { form = Skipped; len = prefix_len stays rest }
longest_front-line text rest some one_line starts =
    let n : ℕ = prefix_len stays rest in
    let past : length text ≤ n = line-past text rest one_line starts in
    let within : n ≤ length rest = prefix_len-le-length stays rest in
    let front : starts_with nat_eq (take n rest) text ≡ true =
    starts_with-from_take (take n rest) text (starts_with-take rest text starts
    ∙ sym (take-take (length text) n rest past)) in
    longest_is
    (λ m. form_if (is_line_of text (take m rest)) Skipped)
    (length rest)
    n
    Skipped
    (omega arith)
    within
    (ap (λ t. form_if (t && list_all stays (take n rest)) Skipped) front
    ∙ ap (λ t. form_if t Skipped) (list_all-take_within stays n rest (omega arith)))
    (λ m more le. ap (λ t. form_if (starts_with nat_eq (take m rest) text && t) Skipped)
    (list_all-take_past stays m rest more le)
    ∙ ap (λ t. form_if t Skipped) (second_false (starts_with nat_eq (take m rest) text)))
  where
    second_false : (p : Bool) → (p && false) ≡ false
    second_false true = refl
    second_false false = refl

starts_with-whole : (m : ℕ) (rest text : List ℕ) → m ≤ length rest →
    starts_with nat_eq (take m rest) text ≡ true → starts_with nat_eq rest text ≡ true
starts_with-whole m rest text le h =
    let short : length text ≤ m =
    omega (arith, starts_with-length (take m rest) text h, length-take m rest) in
    starts_with-from_take rest text (starts_with-take (take m rest) text h
    ∙ take-take (length text) m rest short)

-- where the text isn't at the front, no front has it
pub no_line_front : (begins : Bool) (text rest : List ℕ) (m : ℕ) → m ≤ length rest →
    (begins && starts_with nat_eq rest text) ≡ false →
    (begins && is_line_of text (take m rest)) ≡ false
no_line_front false text rest m le none = refl
no_line_front true text rest m le none =
    elim (starts_with nat_eq (take m rest) text)
    as (λ t. starts_with nat_eq (take m rest) text ≡ t →
    (t && list_all stays (take m rest)) ≡ false) [
      | true ↦ λ h. absurd (let whole : starts_with nat_eq rest text ≡ true =
          starts_with-whole m rest text le h in cc)
      | false ↦ λ h. refl
    ] refl

pub longest_front-no_line : (begins : Bool) (text rest : List ℕ) →
    (begins && starts_with nat_eq rest text) ≡ false →
    longest_front (λ front. form_if (begins && is_line_of text front) Skipped) rest ≡ bad_byte
longest_front-no_line begins text rest none =
    longest_none (λ m. form_if (begins && is_line_of text (take m rest)) Skipped) (length rest)
    (λ m some le. ap (λ t. form_if t Skipped) (no_line_front begins text rest m le none))

-- a stretch that is longer than each text isn't listed
is_listed-long : (texts : List (List ℕ)) (n : ℕ) (front : List ℕ) →
    list_all (λ t. nat_le (length t) n) texts ≡ true → n < length front →
    is_listed texts front ≡ false
is_listed-long [] n front h lt = refl
is_listed-long (text ∷ more) n front h lt =
    let short : nat_le (length text) n ≡ true =
    first_true (nat_le (length text) n) (list_all (λ t. nat_le (length t) n) more) h in
    elim (pointwise nat_eq front text) as (λ t. pointwise nat_eq front text ≡ t →
    (t || is_listed more front) ≡ false) [
      | true ↦ λ k. absurd (let same : length front ≡ length text =
          ap length (pointwise-same front text k) in
          broken (length text) n short (omega arith))
      | false ↦ λ k. is_listed-long more n front
          (second_true (nat_le (length text) n) (list_all (λ t. nat_le (length t) n) more) h) lt
    ]
    refl
  where
    broken : (a n : ℕ) → nat_le a n ≡ true → n < a → ⊥
    broken a n h lt = grind (arith, nat_tests)

-- the text at the front is listed, and the longest
listed_first : (text : List ℕ) (more : List (List ℕ)) (kind : Kind) (rest : List ℕ) →
    nat_le 1 (length text) ≡ true → list_all (λ t. nat_le (length t) (length text)) more ≡ true →
    starts_with nat_eq rest text ≡ true →
    longest_front (λ front. form_if (is_listed (text ∷ more) front) (Whole kind)) rest ≡ record
    { form = Whole kind; len = length text }
listed_first text more kind rest some short starts =
    let n : ℕ = length text in
    let one : 0 < n = grind (arith, nat_tests) in
    let within : n ≤ length rest = starts_with-length rest text starts in
    let same : pointwise nat_eq (take n rest) text ≡ true =
    ap (λ ys. pointwise nat_eq ys text) (sym (starts_with-take rest text starts))
    ∙ pointwise-refl text in
    let all_short : list_all (λ t. nat_le (length t) n) (text ∷ more) ≡ true =
    ap (λ t. t && list_all (λ t. nat_le (length t) n) more) (le_self n) ∙ short in
    longest_is
    (λ m. form_if (is_listed (text ∷ more) (take m rest)) (Whole kind))
    (length rest)
    n
    (Whole kind)
    one
    within
    (ap (λ t. form_if (t || is_listed more (take n rest)) (Whole kind)) same)
    (λ m past le. ap (λ t. form_if t (Whole kind))
    (is_listed-long (text ∷ more) n (take m rest) all_short
    (omega (arith, length-take-le m rest le))))
  where
    le_self : (n : ℕ) → nat_le n n ≡ true
    le_self n = grind (arith, nat_tests)

-- a text that isn't at the front is no front
not_listed_first : (text : List ℕ) (more : List (List ℕ)) (kind : Kind) (rest : List ℕ) →
    starts_with nat_eq rest text ≡ false →
    longest_front (λ front. form_if (is_listed (text ∷ more) front) (Whole kind)) rest ≡
    longest_front (λ front. form_if (is_listed more front) (Whole kind)) rest
not_listed_first text more kind rest none =
    longest_same (λ m. form_if (is_listed (text ∷ more) (take m rest)) (Whole kind))
    (λ m. form_if (is_listed more (take m rest)) (Whole kind)) (length rest)
    (λ m some le. ap (λ t. form_if (t || is_listed more (take m rest)) (Whole kind))
    (differs m le))
  where
    differs : (m : ℕ) → m ≤ length rest → pointwise nat_eq (take m rest) text ≡ false
    differs m le =
        elim (pointwise nat_eq (take m rest) text)
        as (λ t. pointwise nat_eq (take m rest) text ≡ t → t ≡ false) [
          | true ↦
              λ h.
              let same : take m rest ≡ text = pointwise-same (take m rest) text h in
              let size : m ≡ length text = sym (length-take-le m rest le) ∙ ap length same in
              let starts : starts_with nat_eq rest text ≡ true =
              starts_with-from_take rest text (sym same ∙ ap (λ k. take k rest) size) in
              sym starts ∙ none
          | false ↦ λ h. refl
        ] refl

listed_stretch-some : (kind : Kind) (n : ℕ) → nat_le 1 n ≡ true →
    listed_stretch kind n ≡ record { form = Whole kind; len = n }
listed_stretch-some kind n some =
    let nonzero : (n == 0) ≡ false = grind (arith, nat_tests) in
    ap (λ t. cond t bad_byte (record { form = Whole kind; len = n })) nonzero

by_start : (text : List ℕ) (more : List (List ℕ)) (kind : Kind) (rest : List ℕ) →
    nat_le 1 (length text) ≡ true → list_all (λ t. nat_le (length t) (length text)) more ≡ true →
    longest_front (λ front. form_if (is_listed more front) (Whole kind)) rest ≡ listed_stretch kind
    (listed more rest) → longest_front
    (λ front. form_if (is_listed (text ∷ more) front) (Whole kind)) rest ≡ listed_stretch kind
    (listed (text ∷ more) rest)
by_start text more kind rest some short later =
    elim (starts_with nat_eq rest text) as (λ t. starts_with nat_eq rest text ≡ t →
    longest_front (λ front. form_if (is_listed (text ∷ more) front) (Whole kind)) rest ≡
    listed_stretch kind (cond t (length text) (listed more rest))) [
      | true ↦ λ h. listed_first text more kind rest some short h
          ∙ sym (listed_stretch-some kind (length text) some)
      | false ↦ λ h. not_listed_first text more kind rest h ∙ later
    ] refl

-- the longest listed text is the first at the front, where longer ones come first
pub longest_front-listed : (texts : List (List ℕ)) (kind : Kind) (rest : List ℕ) →
    falls texts ≡ true → longest_front (λ front. form_if (is_listed texts front) (Whole kind)) rest
    ≡ listed_stretch kind (listed texts rest)
longest_front-listed [] kind rest h = longest_none (λ m. None) (length rest) (λ m some le. refl)
longest_front-listed (text ∷ more) kind rest h =
    let n : ℕ = length text in
    let tail : (list_all (λ t. nat_le (length t) n) more && falls more) ≡ true =
    second_true (nat_le 1 n) (list_all (λ t. nat_le (length t) n) more && falls more) h in
    let later : falls more ≡ true =
    second_true (list_all (λ t. nat_le (length t) n) more) (falls more) tail in
    let short : list_all (λ t. nat_le (length t) n) more ≡ true =
    first_true (list_all (λ t. nat_le (length t) n) more) (falls more) tail in
    by_start text more kind rest
    (first_true (nat_le 1 n) (list_all (λ t. nat_le (length t) n) more && falls more) h) short
    (longest_front-listed more kind rest later)

-- a stretch that passes a test that no listed text passes isn't listed
pub is_listed-not : (test : List ℕ → Bool) (texts : List (List ℕ)) (front : List ℕ) →
    list_all (λ t. not (test t)) texts ≡ true → test front ≡ true → is_listed texts front ≡ false
is_listed-not test [] front h passes = refl
is_listed-not test (text ∷ more) front h passes =
    elim (pointwise nat_eq front text) as (λ t. pointwise nat_eq front text ≡ t →
    (t || is_listed more front) ≡ false) [
      | true ↦
          λ k.
          let same : front ≡ text = pointwise-same front text k in
          let fails : not (test text) ≡ true =
          first_true (not (test text)) (list_all (λ t. not (test t)) more) h in
          absurd (both (test text) fails (ap test (sym same) ∙ passes))
      | false ↦ λ k. is_listed-not test more front
          (second_true (not (test text)) (list_all (λ t. not (test t)) more) h) passes
    ] refl
  where
    both : (t : Bool) → not t ≡ true → t ≡ true → ⊥
    both true h k = cc
    both false h k = cc

-- a text of several bytes, of which the second is among those
abbrev pub has_second : List ℕ → List ℕ → Bool
has_second seconds text = nat_le 2 (length text) && is_among seconds (get_or text 1 0)

-- such a text isn't at the front of bytes with another second one
not_second : (seconds text rest : List ℕ) → has_second seconds text ≡ true →
    is_among seconds (get_or rest 1 0) ≡ false → starts_with nat_eq rest text ≡ false
not_second seconds text rest h other =
    elim (starts_with nat_eq rest text) as (λ t. starts_with nat_eq rest text ≡ t → t ≡ false) [
      | true ↦
          λ k.
          let long : nat_le 2 (length text) ≡ true =
          first_true (nat_le 2 (length text)) (is_among seconds (get_or text 1 0)) h in
          let second : is_among seconds (get_or text 1 0) ≡ true =
          second_true (nat_le 2 (length text)) (is_among seconds (get_or text 1 0)) h in
          let there : 1 < length text = above (length text) long in
          let same : get_or text 1 0 ≡ get_or rest 1 0 =
          ap (λ xs. get_or xs 1 0) (starts_with-take rest text k)
          ∙ get_or-take (length text) rest 1 0 there in
          absurd (both (is_among seconds (get_or rest 1 0)) (ap (is_among seconds) (sym same)
          ∙ second) other)
      | false ↦ λ k. refl
    ] refl
  where
    above : (n : ℕ) → nat_le 2 n ≡ true → 1 < n
    above n h = grind (arith, nat_tests)

    both : (t : Bool) → t ≡ true → t ≡ false → ⊥
    both true h k = cc
    both false h k = cc

no_bytes : (bytes : List ℕ) → listed (singles bytes) [] ≡ 0
no_bytes [] = refl
no_bytes (s ∷ bytes) = no_bytes bytes

-- a sign of one byte at the front
listed-singles : (bytes rest : List ℕ) → is_among bytes 0 ≡ false →
    listed (singles bytes) rest ≡ cond (is_among bytes (get_or rest 0 0)) 1 0
listed-singles [] rest h = refl
listed-singles (s ∷ bytes) [] h = no_zero (s ∷ bytes) h
  where
    no_zero : (bytes : List ℕ) → is_among bytes 0 ≡ false →
        listed (singles bytes) [] ≡ cond (is_among bytes 0) 1 0
    no_zero bytes h = no_bytes bytes ∙ sym (ap (λ t. cond t 1 0) h)
listed-singles (s ∷ bytes) (a ∷ rest) h =
    by_first (nat_eq s a) (same s a)
    (listed-singles bytes (a ∷ rest) (second_none (0 == s) (is_among bytes 0) h))
  where
    same : (s a : ℕ) → (a == s) ≡ nat_eq s a
    same s a = grind (arith, nat_tests)

    second_none : (p q : Bool) → (p || q) ≡ false → q ≡ false
    second_none true q h = cc
    second_none false q h = h

    by_first : (p : Bool) → (a == s) ≡ p →
        listed (singles bytes) (a ∷ rest) ≡ cond (is_among bytes a) 1 0 →
        cond (p && true) 1 (listed (singles bytes) (a ∷ rest)) ≡ cond ((a == s) || is_among bytes a)
        1 0
    by_first true is later = sym (ap (λ t. cond (t || is_among bytes a) 1 0) is)
    by_first false is later = later ∙ sym (ap (λ t. cond (t || is_among bytes a) 1 0) is)

-- where the second byte is of no longer sign, only one of one byte can be there
pub listed-short : (long : List (List ℕ)) (seconds bytes rest : List ℕ) →
    list_all (has_second seconds) long ≡ true → is_among bytes 0 ≡ false →
    is_among seconds (get_or rest 1 0) ≡ false →
    listed (long ++ singles bytes) rest ≡ cond (is_among bytes (get_or rest 0 0)) 1 0
listed-short [] seconds bytes rest h zero other = listed-singles bytes rest zero
listed-short (text ∷ long) seconds bytes rest h zero other =
    ap (λ t. cond t (length text) (listed (long ++ singles bytes) rest))
    (not_second seconds text rest
    (first_true (has_second seconds text) (list_all (has_second seconds) long) h) other)
    ∙ listed-short long seconds bytes rest
    (second_true (has_second seconds text) (list_all (has_second seconds) long) h) zero other
