-- What is sought, on the digits of two bits.
use Rattle.std.proofs.Common.{◌≡◌, ℕ, ◌+◌, ◌-◌, ◌<◌, ◌%◌, max, cond, not, ◌||◌, refl}
use Rattle.dpi_bits.specs.declared.bit.Bit.{Bit}
use Rattle.dpi_bits.specs.declared.bit.Bit.TheVariants.{Zero, One, Z, X}
use Rattle.dpi_bits.specs.Bits.{is_unknown}
use Rattle.dpi_bits.specs.Words.{aval, bval, bit_of}
use Rattle.dpi_bits.specs.Sought.{is_zero, is_one, same_state, are_opposed}
use Rattle.dpi_bits.proofs.Digits.{digits2}

zero_cases : (x y : Bit) → (1 - (max (aval x) (bval x))) ≡ cond (is_zero (bit_of (aval x) (bval x))) 1 0
zero_cases Zero Zero = refl
zero_cases Zero One = refl
zero_cases Zero Z = refl
zero_cases Zero X = refl
zero_cases One Zero = refl
zero_cases One One = refl
zero_cases One Z = refl
zero_cases One X = refl
zero_cases Z Zero = refl
zero_cases Z One = refl
zero_cases Z Z = refl
zero_cases Z X = refl
zero_cases X Zero = refl
zero_cases X One = refl
zero_cases X Z = refl
zero_cases X X = refl

pub zero_digits : (p q r s : ℕ) → p < 2 → q < 2 → r < 2 → s < 2 → (1 - (max p q)) ≡ cond (is_zero (bit_of p q)) 1 0
zero_digits = digits2 (λ p q r s. (1 - (max p q)) ≡ cond (is_zero (bit_of p q)) 1 0) zero_cases

one_cases : (x y : Bit) → ((aval x) - (bval x)) ≡ cond (is_one (bit_of (aval x) (bval x))) 1 0
one_cases Zero Zero = refl
one_cases Zero One = refl
one_cases Zero Z = refl
one_cases Zero X = refl
one_cases One Zero = refl
one_cases One One = refl
one_cases One Z = refl
one_cases One X = refl
one_cases Z Zero = refl
one_cases Z One = refl
one_cases Z Z = refl
one_cases Z X = refl
one_cases X Zero = refl
one_cases X One = refl
one_cases X Z = refl
one_cases X X = refl

pub one_digits : (p q r s : ℕ) → p < 2 → q < 2 → r < 2 → s < 2 → (p - q) ≡ cond (is_one (bit_of p q)) 1 0
one_digits = digits2 (λ p q r s. (p - q) ≡ cond (is_one (bit_of p q)) 1 0) one_cases

unknown_cases : (x y : Bit) → (max (bval x) (bval y)) ≡ cond ((is_unknown (bit_of (aval x) (bval x)) || is_unknown (bit_of (aval y) (bval y)))) 1 0
unknown_cases Zero Zero = refl
unknown_cases Zero One = refl
unknown_cases Zero Z = refl
unknown_cases Zero X = refl
unknown_cases One Zero = refl
unknown_cases One One = refl
unknown_cases One Z = refl
unknown_cases One X = refl
unknown_cases Z Zero = refl
unknown_cases Z One = refl
unknown_cases Z Z = refl
unknown_cases Z X = refl
unknown_cases X Zero = refl
unknown_cases X One = refl
unknown_cases X Z = refl
unknown_cases X X = refl

pub unknown_digits : (p q r s : ℕ) → p < 2 → q < 2 → r < 2 → s < 2 → (max q s) ≡ cond ((is_unknown (bit_of p q) || is_unknown (bit_of r s))) 1 0
unknown_digits = digits2 (λ p q r s. (max q s) ≡ cond ((is_unknown (bit_of p q) || is_unknown (bit_of r s))) 1 0) unknown_cases

opposed_cases : (x y : Bit) → ((((aval x) + (aval y)) % 2) - (max (bval x) (bval y))) ≡ cond (are_opposed (bit_of (aval x) (bval x)) (bit_of (aval y) (bval y))) 1 0
opposed_cases Zero Zero = refl
opposed_cases Zero One = refl
opposed_cases Zero Z = refl
opposed_cases Zero X = refl
opposed_cases One Zero = refl
opposed_cases One One = refl
opposed_cases One Z = refl
opposed_cases One X = refl
opposed_cases Z Zero = refl
opposed_cases Z One = refl
opposed_cases Z Z = refl
opposed_cases Z X = refl
opposed_cases X Zero = refl
opposed_cases X One = refl
opposed_cases X Z = refl
opposed_cases X X = refl

pub opposed_digits : (p q r s : ℕ) → p < 2 → q < 2 → r < 2 → s < 2 → (((p + r) % 2) - (max q s)) ≡ cond (are_opposed (bit_of p q) (bit_of r s)) 1 0
opposed_digits = digits2 (λ p q r s. (((p + r) % 2) - (max q s)) ≡ cond (are_opposed (bit_of p q) (bit_of r s)) 1 0) opposed_cases

unlike_cases : (x y : Bit) → (max (((aval x) + (aval y)) % 2) (((bval x) + (bval y)) % 2)) ≡ cond (not (same_state (bit_of (aval x) (bval x)) (bit_of (aval y) (bval y)))) 1 0
unlike_cases Zero Zero = refl
unlike_cases Zero One = refl
unlike_cases Zero Z = refl
unlike_cases Zero X = refl
unlike_cases One Zero = refl
unlike_cases One One = refl
unlike_cases One Z = refl
unlike_cases One X = refl
unlike_cases Z Zero = refl
unlike_cases Z One = refl
unlike_cases Z Z = refl
unlike_cases Z X = refl
unlike_cases X Zero = refl
unlike_cases X One = refl
unlike_cases X Z = refl
unlike_cases X X = refl

pub unlike_digits : (p q r s : ℕ) → p < 2 → q < 2 → r < 2 → s < 2 → (max ((p + r) % 2) ((q + s) % 2)) ≡ cond (not (same_state (bit_of p q) (bit_of r s))) 1 0
unlike_digits = digits2 (λ p q r s. (max ((p + r) % 2) ((q + s) % 2)) ≡ cond (not (same_state (bit_of p q) (bit_of r s))) 1 0) unlike_cases
