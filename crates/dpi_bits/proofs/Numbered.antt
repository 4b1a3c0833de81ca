-- The digits of the number that a list writes.
use Rattle.std.proofs.Common.{◌≡◌, ℕ, zero, suc, ◌+◌, ◌*◌, ◌/◌, ◌%◌, ◌^◌, ◌<◌, ◌≤◌, ◌⊎◌, inl, inr, List, [], ◌∷◌, get_or, take, drop, refl, ap, sym, ◌∙◌, arith}
use Rattle.std.specs.Int.{bit_at}
use Rattle.std.proofs.lemmas.List.{length-take, get_or-take, get_or-drop, get_or_past}
use Rattle.std.proofs.lemmas.Nat.Bits.{bit_at_lowest, bit_at-suc, bit_at-zero, bit_at-lt, bit_at_above, same_from_bits}
use Rattle.dpi_bits.specs.declared.bit.Bit.{Bit}
use Rattle.dpi_bits.specs.declared.bit.Bit.TheVariants.{Zero, One, Z, X}
use Rattle.dpi_bits.specs.declared.word.Word4.{Word4}
use Rattle.dpi_bits.specs.Words.{aval, bval, bit_of, bit_in}
use Rattle.dpi_bits.specs.Numbers.{number_by, word_of}
use Rattle.dpi_bits.proofs.Digits.{digits}

pub aval_lt : (b : Bit) → aval b < 2
aval_lt Zero = omega arith
aval_lt One = omega arith
aval_lt Z = omega arith
aval_lt X = omega arith

pub bval_lt : (b : Bit) → bval b < 2
bval_lt Zero = omega arith
bval_lt One = omega arith
bval_lt Z = omega arith
bval_lt X = omega arith

aval_cases : (x : Bit) → aval (bit_of (aval x) (bval x)) ≡ aval x
aval_cases Zero = refl
aval_cases One = refl
aval_cases Z = refl
aval_cases X = refl

bval_cases : (x : Bit) → bval (bit_of (aval x) (bval x)) ≡ bval x
bval_cases Zero = refl
bval_cases One = refl
bval_cases Z = refl
bval_cases X = refl

-- the digits of a word are those of its bits
pub aval_in : (word : Word4) (i : ℕ) → bit_at word.aval i ≡ aval (bit_in word i)
aval_in word i = sym (digits (λ p q. aval (bit_of p q) ≡ p) aval_cases (bit_at word.aval i) (bit_at word.bval i) (bit_at-lt word.aval i) (bit_at-lt word.bval i))

pub bval_in : (word : Word4) (i : ℕ) → bit_at word.bval i ≡ bval (bit_in word i)
bval_in word i = sym (digits (λ p q. bval (bit_of p q) ≡ q) bval_cases (bit_at word.aval i) (bit_at word.bval i) (bit_at-lt word.aval i) (bit_at-lt word.bval i))

lowest : (d n : ℕ) → d < 2 → (d + 2 * n) % 2 ≡ d
lowest d n h = omega arith

halved : (d n : ℕ) → d < 2 → (d + 2 * n) / 2 ≡ n
halved d n h = omega arith

-- digit i of the number is the digit of bit i
pub number_at : (digit : Bit → ℕ) → ((b : Bit) → digit b < 2) → digit Zero ≡ 0 → (bits : List Bit) (i : ℕ) → bit_at (number_by digit bits) i ≡ digit (get_or bits i Zero)
number_at digit lt none [] i = bit_at-zero i ∙ sym none
number_at digit lt none (b ∷ bs) zero = bit_at_lowest (digit b + 2 * number_by digit bs) ∙ lowest (digit b) (number_by digit bs) (lt b)
number_at digit lt none (b ∷ bs) (suc i) =
    bit_at-suc (digit b + 2 * number_by digit bs) i
    ∙ ap (λ n. bit_at n i) (halved (digit b) (number_by digit bs) (lt b))
    ∙ number_at digit lt none bs i

-- the number of one word of a list
word_number : (digit : Bit → ℕ) → ((b : Bit) → digit b < 2) → digit Zero ≡ 0 → (bits : List Bit) (n j : ℕ) → n < 2 ^ 32 → ((i : ℕ) → i < 32 → bit_at n i ≡ digit (get_or bits (32 * j + i) Zero)) → n ≡ number_by digit (take 32 (drop (32 * j) bits))
word_number digit lt none bits n j fits same =
    same_from_bits n (number_by digit (take 32 (drop (32 * j) bits)))
    (λ i.
    let cases : (i < 32) ⊎ (32 ≤ i) = search arith in
    elim cases [
      | inl l ↦
          same i l
          ∙ sym (number_at digit lt none (take 32 (drop (32 * j) bits)) i
          ∙ ap digit (get_or-take 32 (drop (32 * j) bits) i Zero l ∙ get_or-drop (32 * j) bits i Zero))
      | inr l ↦
          bit_at_above n 32 i fits l
          ∙ sym (number_at digit lt none (take 32 (drop (32 * j) bits)) i
          ∙ ap digit (get_or_past (take 32 (drop (32 * j) bits)) i Zero (omega (arith, length-take 32 (drop (32 * j) bits))))
          ∙ none)
    ])

abbrev word_from : ℕ → ℕ → Word4
word_from m n = record { aval = m; bval = n }

same_word : (a b : Word4) → a.aval ≡ b.aval → a.bval ≡ b.bval → a ≡ b
same_word a b e f = ap (λ n. word_from n a.bval) e ∙ ap (λ n. word_from b.aval n) f

-- a word of 32 digits that has the bits of a list
pub word_is : (word : Word4) (bits : List Bit) (j : ℕ) → word.aval < 2 ^ 32 → word.bval < 2 ^ 32 → ((i : ℕ) → i < 32 → bit_in word i ≡ get_or bits (32 * j + i) Zero) → word ≡ word_of bits j
word_is word bits j fits fits' same =
    same_word word (word_of bits j)
    (word_number aval aval_lt refl bits word.aval j fits (λ i h. aval_in word i ∙ ap aval (same i h)))
    (word_number bval bval_lt refl bits word.bval j fits' (λ i h. bval_in word i ∙ ap bval (same i h)))
