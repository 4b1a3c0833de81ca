-- The operators on pairs of digits.
use Rattle.std.proofs.Common.{◌≡◌, ℕ, zero, suc, ◌+◌, ◌-◌, ◌<◌, min, max, ◌%◌, refl, arith}
use Rattle.dpi_bits.specs.declared.bit.Bit.{Bit}
use Rattle.dpi_bits.specs.declared.bit.Bit.TheVariants.{Zero, One, Z, X}
use Rattle.dpi_bits.specs.Bits.{and_bit, or_bit, xor_bit, merge_bit}
use Rattle.dpi_bits.specs.Words.{aval, bval, bit_of}

-- what holds of the digits of every bit holds of every two digits
pub digits : (P : ℕ → ℕ → Type 0) → ((x : Bit) → P (aval x) (bval x)) → (p q : ℕ) → p < 2 → q < 2 → P p q
digits P h zero zero _ _ = h Zero
digits P h (suc zero) zero _ _ = h One
digits P h zero (suc zero) _ _ = h Z
digits P h (suc zero) (suc zero) _ _ = h X
digits P h (suc (suc p)) q k _ = absurd (omega arith)
digits P h zero (suc (suc q)) _ k = absurd (omega arith)
digits P h (suc zero) (suc (suc q)) _ k = absurd (omega arith)

-- and of two pairs
pub digits2 : (P : ℕ → ℕ → ℕ → ℕ → Type 0) → ((x y : Bit) → P (aval x) (bval x) (aval y) (bval y)) → (p q r s : ℕ) → p < 2 → q < 2 → r < 2 → s < 2 → P p q r s
digits2 P h p q r s hp hq hr hs =
    digits (λ a b. P a b r s) (λ x. digits (λ c d. P (aval x) (bval x) c d) (λ y. h x y) r s hr hs) p q hp hq

and_cases : (x y : Bit) → bit_of (min (max (aval x) (bval x)) (max (aval y) (bval y))) (min (min (max (aval x) (bval x)) (max (aval y) (bval y))) (max (bval x) (bval y))) ≡ and_bit (bit_of (aval x) (bval x)) (bit_of (aval y) (bval y))
and_cases Zero Zero = refl
and_cases Zero One = refl
and_cases Zero Z = refl
and_cases Zero X = refl
and_cases One Zero = refl
and_cases One One = refl
and_cases One Z = refl
and_cases One X = refl
and_cases Z Zero = refl
and_cases Z One = refl
and_cases Z Z = refl
and_cases Z X = refl
and_cases X Zero = refl
and_cases X One = refl
and_cases X Z = refl
and_cases X X = refl

-- `and` on the digits of two bits
pub and_digits : (p q r s : ℕ) → p < 2 → q < 2 → r < 2 → s < 2 → bit_of (min (max p q) (max r s)) (min (min (max p q) (max r s)) (max q s)) ≡ and_bit (bit_of p q) (bit_of r s)
and_digits = digits2 (λ p q r s. bit_of (min (max p q) (max r s)) (min (min (max p q) (max r s)) (max q s)) ≡ and_bit (bit_of p q) (bit_of r s)) and_cases

or_cases : (x y : Bit) → bit_of (max (max ((aval x) - (bval x)) ((aval y) - (bval y))) (max (bval x) (bval y))) (max (bval x) (bval y) - max ((aval x) - (bval x)) ((aval y) - (bval y))) ≡ or_bit (bit_of (aval x) (bval x)) (bit_of (aval y) (bval y))
or_cases Zero Zero = refl
or_cases Zero One = refl
or_cases Zero Z = refl
or_cases Zero X = refl
or_cases One Zero = refl
or_cases One One = refl
or_cases One Z = refl
or_cases One X = refl
or_cases Z Zero = refl
or_cases Z One = refl
or_cases Z Z = refl
or_cases Z X = refl
or_cases X Zero = refl
or_cases X One = refl
or_cases X Z = refl
or_cases X X = refl

-- `or` on the digits of two bits
pub or_digits : (p q r s : ℕ) → p < 2 → q < 2 → r < 2 → s < 2 → bit_of (max (max (p - q) (r - s)) (max q s)) (max q s - max (p - q) (r - s)) ≡ or_bit (bit_of p q) (bit_of r s)
or_digits = digits2 (λ p q r s. bit_of (max (max (p - q) (r - s)) (max q s)) (max q s - max (p - q) (r - s)) ≡ or_bit (bit_of p q) (bit_of r s)) or_cases

xor_cases : (x y : Bit) → bit_of (max (((aval x) + (aval y)) % 2) (max (bval x) (bval y))) (max (bval x) (bval y)) ≡ xor_bit (bit_of (aval x) (bval x)) (bit_of (aval y) (bval y))
xor_cases Zero Zero = refl
xor_cases Zero One = refl
xor_cases Zero Z = refl
xor_cases Zero X = refl
xor_cases One Zero = refl
xor_cases One One = refl
xor_cases One Z = refl
xor_cases One X = refl
xor_cases Z Zero = refl
xor_cases Z One = refl
xor_cases Z Z = refl
xor_cases Z X = refl
xor_cases X Zero = refl
xor_cases X One = refl
xor_cases X Z = refl
xor_cases X X = refl

-- `xor` on the digits of two bits
pub xor_digits : (p q r s : ℕ) → p < 2 → q < 2 → r < 2 → s < 2 → bit_of (max ((p + r) % 2) (max q s)) (max q s) ≡ xor_bit (bit_of p q) (bit_of r s)
xor_digits = digits2 (λ p q r s. bit_of (max ((p + r) % 2) (max q s)) (max q s) ≡ xor_bit (bit_of p q) (bit_of r s)) xor_cases

merge_cases : (x y : Bit) → bit_of (max (aval x) (max (max (((aval x) + (aval y)) % 2) (bval x)) (bval y))) (max (max (((aval x) + (aval y)) % 2) (bval x)) (bval y)) ≡ merge_bit (bit_of (aval x) (bval x)) (bit_of (aval y) (bval y))
merge_cases Zero Zero = refl
merge_cases Zero One = refl
merge_cases Zero Z = refl
merge_cases Zero X = refl
merge_cases One Zero = refl
merge_cases One One = refl
merge_cases One Z = refl
merge_cases One X = refl
merge_cases Z Zero = refl
merge_cases Z One = refl
merge_cases Z Z = refl
merge_cases Z X = refl
merge_cases X Zero = refl
merge_cases X One = refl
merge_cases X Z = refl
merge_cases X X = refl

-- `merge` on the digits of two bits
pub merge_digits : (p q r s : ℕ) → p < 2 → q < 2 → r < 2 → s < 2 → bit_of (max p (max (max ((p + r) % 2) q) s)) (max (max ((p + r) % 2) q) s) ≡ merge_bit (bit_of p q) (bit_of r s)
merge_digits = digits2 (λ p q r s. bit_of (max p (max (max ((p + r) % 2) q) s)) (max (max ((p + r) % 2) q) s) ≡ merge_bit (bit_of p q) (bit_of r s)) merge_cases
