-- Digits that follow others.
use Rattle.std.proofs.Common.{◌≡◌, ℕ, suc, ◌+◌, ◌*◌, ◌-◌, ◌<◌, ◌≤◌, Bool, true, false, ◌&&◌, nat_lt, sym, List, [], ◌∷◌, Some, None, length, drop, get_or, drop-cons, ap, ◌∙◌, arith, refl}
use Rattle.std.specs.Prelude.{if◌then◌else◌}
use Rattle.std.proofs.lemmas.Grind.{common_steps}
use Rattle.std.proofs.lemmas.Bool.Decides.{nat_tests}
use Rattle.std.proofs.lemmas.List.{drop_all}
use Rattle.std.specs.Char.{digit_value, is_ascii_digit}
use Rattle.std.specs.List.{list_all}
use Rattle.std.specs.Str.Parse.{digits_value, digits_value_after}
use Rattle.dpirun.specs.Literal.{value_of}

-- more digits never make a number smaller
pub digits_value_after-le : (n : ℕ) (ds : List ℕ) → n ≤ digits_value_after 10 n ds
digits_value_after-le n [] = omega arith
digits_value_after-le n (d ∷ ds) = let h : n * 10 + digit_value d ≤ digits_value_after 10 (n * 10 + digit_value d) ds = digits_value_after-le (n * 10 + digit_value d) ds in omega arith

-- a digit's value
digit_value-digit : (d : ℕ) → is_ascii_digit d ≡ true → digit_value d ≡ d - 48
digit_value-digit d h = grind (arith, common_steps)

-- no value where a digit is none
value_of-other : (ds : List ℕ) → list_all is_ascii_digit ds ≡ false → value_of ds ≡ None
value_of-other ds h = grind (arith, common_steps)

-- no value past the limit
value_of-large : (ds : List ℕ) → 4294967296 ≤ digits_value 10 ds → value_of ds ≡ None
value_of-large ds h = let off : nat_lt (digits_value 10 ds) 4294967296 ≡ false = grind arith in grind (arith, common_steps)

-- a digit that passes the limit
large : (value d : ℕ) → is_ascii_digit d ≡ true
    → (is_ascii_digit d && nat_lt (value * 10 + (d - 48)) 4294967296) ≡ false → 4294967296 ≤ value * 10 + (d - 48)
large value d is stops =
    let off : nat_lt (value * 10 + (d - 48)) 4294967296 ≡ false =
    sym (ap (λ t. t && nat_lt (value * 10 + (d - 48)) 4294967296) is) ∙ stops in
    grind (arith, nat_tests)

-- no value where the digit at a place is none, or passes the limit with those before it
pub value_of-stops : (ds : List ℕ) (value i : ℕ) → i < length ds
    → digits_value 10 ds ≡ digits_value_after 10 value (drop i ds)
    → list_all is_ascii_digit ds ≡ list_all is_ascii_digit (drop i ds)
    → (is_ascii_digit (get_or ds i 0) && nat_lt (value * 10 + (get_or ds i 0 - 48)) 4294967296) ≡ false
    → value_of ds ≡ None
value_of-stops ds value i inside read all stops =
    let d : ℕ = get_or ds i 0 in
    let front : drop i ds ≡ get_or ds i 0 ∷ drop (suc i) ds = drop-cons ds i 0 inside in
    let digits : list_all is_ascii_digit ds ≡ (is_ascii_digit (get_or ds i 0) && list_all is_ascii_digit (drop (suc i) ds)) =
    all ∙ ap (list_all is_ascii_digit) front in
    let whole : digits_value 10 ds ≡ digits_value_after 10 (value * 10 + digit_value (get_or ds i 0)) (drop (suc i) ds) =
    read ∙ ap (digits_value_after 10 value) front in
    let by : (b : Bool) → is_ascii_digit (get_or ds i 0) ≡ b → value_of ds ≡ None = elim [
      | true ↦ λ is. value_of-large ds (omega (
        arith,
        whole,
        digit_value-digit (get_or ds i 0) is,
        digits_value_after-le (value * 10 + digit_value (get_or ds i 0)) (drop (suc i) ds),
        large value (get_or ds i 0) is stops,
      ))
      | false ↦ λ is. value_of-other ds (digits ∙ ap (λ t. t && list_all is_ascii_digit (drop (suc i) ds)) is)
    ] in
    by (is_ascii_digit (get_or ds i 0)) refl

-- it has its value where all of it was read
pub value_of-whole : (ds : List ℕ) (value i : ℕ) → length ds ≤ i → value < 4294967296
    → digits_value 10 ds ≡ digits_value_after 10 value (drop i ds)
    → list_all is_ascii_digit ds ≡ list_all is_ascii_digit (drop i ds) → value_of ds ≡ Some value
value_of-whole ds value i past small read all =
    let none : drop i ds ≡ [] = drop_all i ds past in
    let is : digits_value 10 ds ≡ value = read ∙ ap (digits_value_after 10 value) none in
    let digits : list_all is_ascii_digit ds ≡ true = all ∙ ap (list_all is_ascii_digit) none in
    grind (arith, common_steps)

-- a test that gave nothing has failed
pub if-none : (b : Bool) (x : ℕ) → None ≡ (if b then Some x else None) → b ≡ false
if-none true x e = cc
if-none false x e = refl
