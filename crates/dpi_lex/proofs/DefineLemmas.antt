use Rattle.std.proofs.Common.{◌≡◌, ℕ, ◌+◌, ◌-◌, ◌<◌, ◌≤◌, Bool, true, false, cond, ◌&&◌}
use Rattle.std.proofs.Common.{zero, suc, List, [], ◌∷◌, length, take, drop, get_or}
use Rattle.std.proofs.Common.{None, refl, ap, sym, ◌∙◌, arith, length-drop, length-take, ⊎_elim}
use Rattle.std.specs.Prelude.{nat_lt, nat_eq, codes}
use Rattle.std.specs.List.{list_all, prefix_len, starts_with, take_while}
use Rattle.std.proofs.lemmas.Bool.{cases_lt}
use Rattle.std.proofs.lemmas.Bool.Decides.{nat_tests}
use Rattle.std.proofs.lemmas.List.{take-take, drop-take, drop_all, drop-drop, length-take-le}
use Rattle.std.proofs.lemmas.List.{get_or-take}
use Rattle.std.proofs.lemmas.List.Sums.{prefix_len-le-length}
use lib.Pointwise.{pointwise}
use Rattle.dpi_lex.specs.declared.form.Form.{Form}
use Rattle.dpi_lex.specs.declared.form.Stretch.{Stretch}
use Rattle.dpi_lex.specs.declared.language.Language.TheVariants.{C}
use Rattle.dpi_lex.specs.Bytes.{is_among, is_blank, is_digit, is_name_byte}
use Rattle.dpi_lex.specs.C.{define_forms}
use Rattle.dpi_lex.specs.CNumbers.{is_number_byte, is_number_stretch}
use Rattle.dpi_lex.specs.Define.{is_free_name, from_name, define_name, behind_name, from_value}
use Rattle.dpi_lex.specs.Define.{minus_len, from_number, begins_define, number_place, define_of}
use Rattle.dpi_lex.specs.Define.{define_form}
use Rattle.dpi_lex.specs.Shapes.{form_if, behind}
use Rattle.dpi_lex.specs.Stretches.{longest, front_of, bad_byte}
use Rattle.dpi_lex.proofs.CNumberLemmas.{digit_goes_on, is_number_stretch-run}
use Rattle.dpi_lex.proofs.Longest.{longest_is, longest_none}
use Rattle.dpi_lex.proofs.Runs.{list_all-take_within, list_all-take_past, prefix_len-some}
use Rattle.dpi_lex.proofs.SvNumberLemmas.{prefix_len-take_within, prefix_len-take_past}

-- what follows n bytes of a front
drop-front : (n m : ℕ) (xs : List ℕ) → drop n (take m xs) ≡ take (m - n) (drop n xs)
drop-front n m xs =
    ⊎_elim
    (λ (lt : m < n). let none : m - n ≡ 0 = omega arith in
    drop_all n (take m xs) (omega (arith, length-take m xs))
    ∙ ap (λ k. take k (drop n xs)) (sym none))
    (λ (le : n ≤ m). let is : m ≡ n + (m - n) = omega arith in
    ap (λ k. drop n (take k xs)) is ∙ drop-take n (m - n) xs)
    (cases_lt m n)

-- what follows a run at the front of a front
behind-front : (p : ℕ → Bool) (m : ℕ) (xs : List ℕ) →
    behind p (take m xs) ≡ take (m - prefix_len p xs) (behind p xs)
behind-front p m xs =
    ⊎_elim
    (λ (lt : m < prefix_len p xs). let none : m - prefix_len p xs ≡ 0 = omega arith in
    let run : prefix_len p (take m xs) ≡ m = prefix_len-take_within p m xs (omega arith) in
    drop_all (prefix_len p (take m xs)) (take m xs) (omega (arith, length-take m xs))
    ∙ ap (λ k. take k (behind p xs)) (sym none))
    (λ (le : prefix_len p xs ≤ m). ap (λ k. drop k (take m xs)) (prefix_len-take_past p m xs le)
    ∙ drop-front (prefix_len p xs) m xs)
    (cases_lt m (prefix_len p xs))

-- the run at the front of a front that is long enough
take_while-front : (p : ℕ → Bool) (m : ℕ) (xs : List ℕ) → prefix_len p xs ≤ m →
    take_while p (take m xs) ≡ take_while p xs
take_while-front p m xs le =
    ap (λ k. take k (take m xs)) (prefix_len-take_past p m xs le)
    ∙ take-take (prefix_len p xs) m xs le

-- how many bytes stand before the name, the blanks behind it, the value, the number
abbrev to_name : List ℕ → ℕ
to_name xs = 7 + prefix_len is_blank (drop 7 xs)

abbrev past_name : List ℕ → ℕ
past_name xs = to_name xs + prefix_len (is_name_byte C) (from_name xs)

abbrev to_value : List ℕ → ℕ
to_value xs = past_name xs + prefix_len is_blank (behind_name xs)

abbrev pub to_number : List ℕ → ℕ
to_number xs = to_value xs + minus_len (from_value xs)

less_and_less : (m a b : ℕ) → m - a - b ≡ m - (a + b)
less_and_less m a b = omega arith

from_name-take : (m : ℕ) (xs : List ℕ) →
    from_name (take m xs) ≡ take (m - to_name xs) (from_name xs)
from_name-take m xs =
    ap (behind is_blank) (drop-front 7 m xs)
    ∙ behind-front is_blank (m - 7) (drop 7 xs)
    ∙ ap (λ k. take k (from_name xs)) (less_and_less m 7 (prefix_len is_blank (drop 7 xs)))

behind_name-take : (m : ℕ) (xs : List ℕ) →
    behind_name (take m xs) ≡ take (m - past_name xs) (behind_name xs)
behind_name-take m xs =
    ap (behind (is_name_byte C)) (from_name-take m xs)
    ∙ behind-front (is_name_byte C) (m - to_name xs) (from_name xs)
    ∙ ap (λ k. take k (behind_name xs))
    (less_and_less m (to_name xs) (prefix_len (is_name_byte C) (from_name xs)))

from_value-take : (m : ℕ) (xs : List ℕ) →
    from_value (take m xs) ≡ take (m - to_value xs) (from_value xs)
from_value-take m xs =
    ap (behind is_blank) (behind_name-take m xs)
    ∙ behind-front is_blank (m - past_name xs) (behind_name xs)
    ∙ ap (λ k. take k (from_value xs))
    (less_and_less m (past_name xs) (prefix_len is_blank (behind_name xs)))

-- without the `-`
abbrev unsigned : List ℕ → List ℕ
unsigned xs = drop (minus_len xs) xs

unsigned-take : (j : ℕ) (xs : List ℕ) → unsigned (take j xs) ≡ take (j - minus_len xs) (unsigned xs)
unsigned-take zero xs = let none : 0 - minus_len xs ≡ 0 = omega arith in
    ap (λ k. take k (unsigned xs)) (sym none)
unsigned-take (suc j) xs =
    let same : minus_len (take (suc j) xs) ≡ minus_len xs =
    ap (λ b. cond (is_among (codes "-") b) 1 0) (get_or-take (suc j) xs 0 0 (omega arith)) in
    ap (λ k. drop k (take (suc j) xs)) same ∙ drop-front (minus_len xs) (suc j) xs

pub from_number-take : (m : ℕ) (xs : List ℕ) →
    from_number (take m xs) ≡ take (m - to_number xs) (from_number xs)
from_number-take m xs =
    ap unsigned (from_value-take m xs)
    ∙ unsigned-take (m - to_value xs) (from_value xs)
    ∙ ap (λ k. take k (from_number xs)) (less_and_less m (to_value xs) (minus_len (from_value xs)))

length-behind : (p : ℕ → Bool) (xs : List ℕ) → length (behind p xs) ≡ length xs - prefix_len p xs
length-behind p xs = length-drop (prefix_len p xs) xs

-- how long a define is from its number on
pub length-from_number : (xs : List ℕ) → length (from_number xs) ≡ length xs - to_number xs
length-from_number xs =
    omega (
      arith,
      length-drop (minus_len (from_value xs)) (from_value xs),
      length-behind is_blank
          (behind_name xs),
      length-behind (is_name_byte C) (from_name xs),
      length-behind is_blank
          (drop 7 xs),
      length-drop 7 xs,
    )

digit_there : (xs : List ℕ) → is_digit (get_or xs 0 0) ≡ true → 0 < length xs
digit_there [] h = cc
digit_there (b ∷ xs) h = omega arith

second_true : (p q : Bool) → (p && q) ≡ true → q ≡ true
second_true true q h = h
second_true false q h = cc

second_false : (p : Bool) → (p && false) ≡ false
second_false true = refl
second_false false = refl

abbrev define_head : List ℕ → Bool
define_head xs =
    starts_with nat_eq xs (codes "#define") && is_blank (get_or xs 7 0) && is_free_name
    (define_name xs) && is_blank (get_or (behind_name xs) 0 0)

-- a define has a number
pub begins_define-digit : (xs : List ℕ) → begins_define xs ≡ true →
    is_digit (get_or (from_number xs) 0 0) ≡ true
begins_define-digit xs h = second_true (define_head xs) (is_digit (get_or (from_number xs) 0 0)) h

-- its number stands behind all before it
pub number_place-is : (xs : List ℕ) → begins_define xs ≡ true → number_place xs ≡ to_number xs
number_place-is xs h =
    let some : 0 < length (from_number xs) =
    digit_there (from_number xs) (begins_define-digit xs h) in
    ap (λ t. cond t (length xs - length (from_number xs)) 0) h
    ∙ omega (arith, length-from_number xs)

-- a front that ends before the number is no define
begins_define-short : (m : ℕ) (xs : List ℕ) → m ≤ to_number xs → begins_define (take m xs) ≡ false
begins_define-short m xs le =
    let none : m - to_number xs ≡ 0 = omega arith in
    let number : from_number (take m xs) ≡ [] = from_number-take m xs
    ∙ ap (λ k. take k (from_number xs)) none in
    ap (λ ys. define_head (take m xs) && is_digit (get_or ys 0 0)) number
    ∙ second_false (define_head (take m xs))

-- a front that reaches the number is one where the whole is
begins_define-long : (m : ℕ) (xs : List ℕ) → to_number xs < m →
    begins_define (take m xs) ≡ begins_define xs
begins_define-long m xs lt =
    let ys : List ℕ = take m xs in
    let text : starts_with nat_eq ys (codes "#define") ≡ starts_with nat_eq xs (codes "#define") =
    ap (λ zs. pointwise nat_eq (codes "#define") zs) (take-take 7 m xs (omega arith)) in
    let blank : get_or ys 7 0 ≡ get_or xs 7 0 = get_or-take m xs 7 0 (omega arith) in
    let name : define_name ys ≡ define_name xs =
    ap (take_while (is_name_byte C)) (from_name-take m xs)
    ∙ take_while-front (is_name_byte C) (m - to_name xs) (from_name xs) (omega arith) in
    let next : get_or (behind_name ys) 0 0 ≡ get_or (behind_name xs) 0 0 =
    ap (λ zs. get_or zs 0 0) (behind_name-take m xs)
    ∙ get_or-take (m - past_name xs) (behind_name xs) 0 0 (omega arith) in
    let digit : get_or (from_number ys) 0 0 ≡ get_or (from_number xs) 0 0 =
    ap (λ zs. get_or zs 0 0) (from_number-take m xs)
    ∙ get_or-take (m - to_number xs) (from_number xs) 0 0 (omega arith) in
    let all : Bool → ℕ → List ℕ → ℕ → ℕ →
    Bool = λ t a n b d. t && is_blank a && is_free_name n && is_blank b && is_digit d in
    ap (λ t. all t (get_or ys 7 0) (define_name ys) (get_or (behind_name ys) 0 0)
    (get_or (from_number ys) 0 0)) text
    ∙ ap (λ a. all (starts_with nat_eq xs (codes "#define")) a (define_name ys)
    (get_or (behind_name ys) 0 0) (get_or (from_number ys) 0 0)) blank
    ∙ ap (λ n. all (starts_with nat_eq xs (codes "#define")) (get_or xs 7 0) n
    (get_or (behind_name ys) 0 0) (get_or (from_number ys) 0 0)) name
    ∙ ap (λ b. all (starts_with nat_eq xs (codes "#define")) (get_or xs 7 0) (define_name xs) b
    (get_or (from_number ys) 0 0)) next
    ∙ ap (λ d. all (starts_with nat_eq xs (codes "#define")) (get_or xs 7 0) (define_name xs)
    (get_or (behind_name xs) 0 0) d) digit

pub begins_define-none : (m : ℕ) (xs : List ℕ) → begins_define xs ≡ false →
    begins_define (take m xs) ≡ false
begins_define-none m xs none =
    ⊎_elim
    (λ (long : to_number xs < m). begins_define-long m xs long ∙ none)
    (λ (short : m ≤ to_number xs). begins_define-short m xs short)
    (cases_lt (to_number xs) m)

-- what doesn't begin a define is none
pub define_form-none : (xs after : List ℕ) → begins_define xs ≡ false → define_form xs after ≡ None
define_form-none xs after none =
    let place : number_place xs ≡ 0 =
    ap (λ t. cond t (length xs - length (from_number xs)) 0) none in
    ap (λ p. form_if (nat_lt 0 p && is_number_stretch (drop p xs)) (define_of p (drop p xs) after))
    place

pub front_of-no_define : (rest : List ℕ) → begins_define rest ≡ false →
    front_of define_forms false rest ≡ bad_byte
unfolding front_of
front_of-no_define rest none =
    longest_none (λ m. define_form (take m rest) (drop m rest)) (length rest)
    (λ m some le. define_form-none (take m rest) (drop m rest) (begins_define-none m rest none))

-- a front that has bytes of the number
define_form-take : (rest : List ℕ) (j : ℕ) → begins_define rest ≡ true → 0 < j →
    to_number rest + j ≤ length rest →
    define_form (take (to_number rest + j) rest) (drop (to_number rest + j) rest) ≡ form_if
    (is_number_stretch (take j (drop (to_number rest) rest)))
    (define_of (to_number rest) (take j (drop (to_number rest) rest))
    (drop j (drop (to_number rest) rest)))
define_form-take rest j begins some le =
    let q : ℕ = to_number rest in
    let front : List ℕ = take (q + j) rest in
    let defines : begins_define front ≡ true = begins_define-long (q + j) rest (omega arith)
    ∙ begins in
    let size : length front ≡ q + j = length-take-le (q + j) rest le in
    let left : length (from_number front) ≡ j = ap length (from_number-take (q + j) rest)
    ∙ ap (λ k. length (take k (from_number rest))) (omega arith)
    ∙ length-take-le j (from_number rest) (omega (arith, length-from_number rest)) in
    let place : number_place front ≡ q =
    ap (λ t. cond t (length front - length (from_number front)) 0) defines ∙ omega arith in
    let number : drop q front ≡ take j (drop q rest) = drop-take q j rest in
    let after : drop (q + j) rest ≡ drop j (drop q rest) = sym (drop-drop j q rest) in
    let positive : nat_lt 0 q ≡ true = above q (omega arith) in
    ap (λ p. form_if (nat_lt 0 p && is_number_stretch (drop p front))
    (define_of p (drop p front) (drop (q + j) rest))) place
    ∙ ap (λ t. form_if (t && is_number_stretch (drop q front))
    (define_of q (drop q front) (drop (q + j) rest))) positive
    ∙ ap (λ ns. form_if (is_number_stretch ns) (define_of q ns (drop (q + j) rest))) number
    ∙ ap (λ ends. form_if (is_number_stretch (take j (drop q rest)))
    (define_of q (take j (drop q rest)) ends)) after
  where
    above : (q : ℕ) → 0 < q → nat_lt 0 q ≡ true
    above q some = grind (arith, nat_tests)

number_stretch-take : (number : List ℕ) (j : ℕ) → is_digit (get_or number 0 0) ≡ true → 0 < j →
    is_number_stretch (take j number) ≡ list_all is_number_byte (take j number)
number_stretch-take [] j digit some = cc
number_stretch-take (b ∷ more) zero digit some = absurd (omega arith)
number_stretch-take (b ∷ more) (suc j) digit some = is_number_stretch-run b (take j more) digit

number_run-some : (number : List ℕ) → is_digit (get_or number 0 0) ≡ true →
    0 < prefix_len is_number_byte number
number_run-some [] digit = cc
number_run-some (b ∷ more) digit = prefix_len-some is_number_byte b more (digit_goes_on b digit)

-- the number stands behind so many bytes
drop-to_number : (xs : List ℕ) → drop (to_number xs) xs ≡ from_number xs
drop-to_number xs =
    let name : drop (to_name xs) xs ≡ from_name xs =
    sym (drop-drop (prefix_len is_blank (drop 7 xs)) 7 xs) in
    let behind_it : drop (past_name xs) xs ≡ behind_name xs =
    sym (drop-drop (prefix_len (is_name_byte C) (from_name xs)) (to_name xs) xs)
    ∙ ap (drop (prefix_len (is_name_byte C) (from_name xs))) name in
    let value : drop (to_value xs) xs ≡ from_value xs =
    sym (drop-drop (prefix_len is_blank (behind_name xs)) (past_name xs) xs)
    ∙ ap (drop (prefix_len is_blank (behind_name xs))) behind_it in
    sym (drop-drop (minus_len (from_value xs)) (to_value xs) xs)
    ∙ ap (drop (minus_len (from_value xs))) value

longest_define : (rest : List ℕ) → begins_define rest ≡ true → (r : ℕ) →
    r ≡ prefix_len is_number_byte (drop (to_number rest) rest) →
    longest (λ m. define_form (take m rest) (drop m rest)) (length rest) ≡ record {
      form = define_of (to_number rest) (take r (drop (to_number rest) rest))
          (drop r (drop (to_number rest) rest));
      len = to_number rest + r;
    }
longest_define rest begins r run =
    let q : ℕ = to_number rest in
    let number : List ℕ = drop q rest in
    let digit : is_digit (get_or number 0 0) ≡ true =
    ap (λ xs. is_digit (get_or xs 0 0)) (drop-to_number rest)
    ∙ begins_define-digit rest begins in
    let some : 0 < r = omega (arith, number_run-some number digit) in
    let size : length number ≡ length rest - q = length-drop q rest in
    let there : 0 < length number = digit_there number digit in
    let short : r ≤ length number = omega (arith, prefix_len-le-length is_number_byte number) in
    longest_is
    (λ m. define_form (take m rest) (drop m rest))
    (length rest)
    (q + r)
    (define_of q (take r number) (drop r number))
    (omega arith)
    (omega arith)
    (define_form-take rest r begins some (omega arith)
    ∙ ap (λ t. form_if t (define_of q (take r number) (drop r number)))
    (number_stretch-take number r digit some
    ∙ list_all-take_within is_number_byte r number (omega arith)))
    (λ m past le. longer (m - q) m digit (omega arith) (omega arith) (omega arith) le)
  where
    longer : (j m : ℕ) → is_digit (get_or (drop (to_number rest) rest) 0 0) ≡ true →
        m ≡ to_number rest + j → prefix_len is_number_byte (drop (to_number rest) rest) < j →
        j ≤ length (drop (to_number rest) rest) → m ≤ length rest →
        define_form (take m rest) (drop m rest) ≡ None
    longer j m digit is past short le =
        let number : List ℕ = drop (to_number rest) rest in
        ap (λ k. define_form (take k rest) (drop k rest)) is
        ∙ define_form-take rest j begins (omega arith) (omega arith)
        ∙ ap (λ t. form_if t (define_of (to_number rest) (take j number) (drop j number)))
        (number_stretch-take number j digit (omega arith)
        ∙ list_all-take_past is_number_byte j number past short)

-- a define ends where its number does
front_of-define : (rest : List ℕ) → begins_define rest ≡ true → (r : ℕ) →
    r ≡ prefix_len is_number_byte (drop (to_number rest) rest) →
    front_of define_forms false rest ≡ record {
      form = define_of (to_number rest) (take r (drop (to_number rest) rest))
          (drop r (drop (to_number rest) rest));
      len = to_number rest + r;
    }
unfolding front_of
front_of-define rest begins r run = longest_define rest begins r run

abbrev stretch : Form → ℕ → Stretch
stretch f n = record { form = f; len = n }

-- the same, by the parts that were read
pub define_is : (rest : List ℕ) → begins_define rest ≡ true → (q : ℕ) → q ≡ number_place rest →
    (number : List ℕ) → number ≡ drop q rest → (r : ℕ) → r ≡ prefix_len is_number_byte number →
    (after : List ℕ) → after ≡ drop r number → (form : Form) →
    form ≡ define_of q (take r number) after →
    ◌≡◌ {A = Stretch} record { form = form; len = q + r } (front_of define_forms false rest)
define_is rest begins q place number from r run after ends form is =
    let same : q ≡ to_number rest = place ∙ number_place-is rest begins in
    let whole : number ≡ drop (to_number rest) rest = from ∙ ap (λ k. drop k rest) same in
    let size : r ≡ prefix_len is_number_byte (drop (to_number rest) rest) = run
    ∙ ap (prefix_len is_number_byte) whole in
    let parts : form ≡ define_of (to_number rest) (take r (drop (to_number rest) rest))
    (drop r (drop (to_number rest) rest)) = is ∙ ap (define_of q (take r number)) ends
    ∙ ap (λ k. define_of k (take r number) (drop r number)) same
    ∙ ap (λ xs. define_of (to_number rest) (take r xs) (drop r xs)) whole in
    ap (λ (f : Form). stretch f (q + r)) parts
    ∙ ap (λ k. stretch (define_of (to_number rest) (take r (drop (to_number rest) rest))
    (drop r (drop (to_number rest) rest))) (k + r)) same
    ∙ sym (front_of-define rest begins r size)

-- a place tells whether there is a define
pub begins_define-place : (xs : List ℕ) → (number_place xs ≡ 0 → ⊥) → begins_define xs ≡ true
begins_define-place xs some =
    elim (begins_define xs) as (λ t. begins_define xs ≡ t → t ≡ true) [
      | true ↦ λ h. refl
      | false ↦ λ h. absurd
          (some (ap (λ t. cond t (length xs - length (from_number xs)) 0) h))
    ] refl

pub begins_define-no_place : (xs : List ℕ) → number_place xs ≡ 0 → begins_define xs ≡ false
begins_define-no_place xs none =
    elim (begins_define xs) as (λ t. begins_define xs ≡ t → t ≡ false)
    [ true ↦ λ h. absurd (far (number_place-is xs h)) | false ↦ λ h. refl ] refl
  where
    far : number_place xs ≡ to_number xs → ⊥
    far is = omega arith

-- without `#define` at the front there is none
pub begins_define-text : (xs : List ℕ) → starts_with nat_eq xs (codes "#define") ≡ false →
    begins_define xs ≡ false
begins_define-text xs h =
    ap (λ t. t && is_blank (get_or xs 7 0) && is_free_name (define_name xs) && is_blank
    (get_or (behind_name xs) 0 0) && is_digit (get_or (from_number xs) 0 0)) h
