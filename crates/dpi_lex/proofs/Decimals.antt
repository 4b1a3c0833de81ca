use Rattle.std.proofs.Common.{◌≡◌, ℕ, ◌+◌, ◌*◌, ◌<◌, ◌≤◌, true, false, cond, List, [], ◌∷◌, length}
use Rattle.std.proofs.Common.{take, drop, get_or, ap, sym, ◌∙◌, arith}
use Rattle.std.specs.Prelude.{fold, nat_lt}
use Rattle.std.proofs.lemmas.Bool.Decides.{nat_tests}
use Rattle.std.proofs.lemmas.Grind.{fold-append}
use Rattle.std.proofs.Math.Nat.{mul-le-mul_left}
use Rattle.std.proofs.lemmas.List.{take_more, take-append-drop}
use Rattle.dpi_lex.specs.Bytes.{digit_value}
use Rattle.dpi_lex.specs.Digits.{is_digit_in, next_value, value_in}

-- a base that has a digit isn't 0
pub is_digit_in-base : (base b : ℕ) → is_digit_in base b ≡ true → 0 < base
is_digit_in-base base b h = above (digit_value b) h
  where
    above : (d : ℕ) → nat_lt d base ≡ true → 0 < base
    above d h = grind (arith, nat_tests)

-- a value doesn't fall when a byte comes behind it
next_value-ge : (base v b : ℕ) → 0 < base → v ≤ next_value base v b
next_value-ge base v b some =
    elim (is_digit_in base b) as (λ t. v ≤ cond t (v * base + digit_value b) v)
    [ true ↦ omega (arith, grows v base some) | false ↦ omega arith ]
  where
    grows : (v base : ℕ) → 0 < base → v ≤ v * base
    grows v base some =
        let one : 1 ≤ base = omega arith in
        omega (arith, mul-le-mul_left v one)

value_from-ge : (base v : ℕ) (xs : List ℕ) → 0 < base → v ≤ fold (next_value base) v xs
value_from-ge base v [] some = omega arith
value_from-ge base v (b ∷ xs) some =
    omega (arith, next_value-ge base v b some, value_from-ge base (next_value base v b) xs some)

-- a front's value is at most the whole's
pub value_in-take : (base : ℕ) (xs : List ℕ) (i : ℕ) → 0 < base →
    value_in base (take i xs) ≤ value_in base xs
value_in-take base xs i some =
    let whole : value_in base xs ≡ fold (next_value base) (value_in base (take i xs)) (drop i xs) =
    ap (value_in base) (sym (take-append-drop i xs))
    ∙ fold-append (next_value base) 0 (take i xs) (drop i xs) in
    omega (arith, whole, value_from-ge base (value_in base (take i xs)) (drop i xs) some)

-- one more byte
pub value_in-more : (base : ℕ) (xs : List ℕ) (i : ℕ) → i < length xs →
    value_in base (take (i + 1) xs) ≡ next_value base (value_in base (take i xs)) (get_or xs i 0)
value_in-more base xs i lt =
    ap (value_in base) (take_more xs i 0 lt)
    ∙ fold-append (next_value base) 0 (take i xs) (get_or xs i 0 ∷ [])

pub next_value-digit : (base v b : ℕ) → is_digit_in base b ≡ true →
    next_value base v b ≡ v * base + digit_value b
next_value-digit base v b h = ap (λ t. cond t (v * base + digit_value b) v) h

pub next_value-other : (base v b : ℕ) → is_digit_in base b ≡ false → next_value base v b ≡ v
next_value-other base v b h = ap (λ t. cond t (v * base + digit_value b) v) h
