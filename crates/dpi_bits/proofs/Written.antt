-- The numbers that lists write, and the lists that write numbers.
use Rattle.std.proofs.Common.{◌≡◌, ℕ, ◌+◌, ◌-◌, ◌/◌, ◌%◌, ◌^◌, ◌<◌, ◌≤◌, ◌⊎◌, inl, inr, min, true, false, bit_and, List, [], ◌∷◌, length, get_or, refl, ap, sym, ◌∙◌, arith}
use Rattle.std.specs.Int.{bit_at}
use Rattle.std.proofs.lemmas.List.{ext_get_or, get_or_past}
use Rattle.std.proofs.lemmas.List.FromFn.{length-map-range_with_len, get_or-map-range_with_len}
use Rattle.std.proofs.lemmas.Nat.{shr-shr, shr_split}
use Rattle.std.proofs.lemmas.Nat.Bits.{bit_at_and, bit_at_ones, bit_at-lt, bit_at-zero, bit_at_above, bit_at_cat_low, same_from_bits}
use Rattle.dpi_bits.specs.declared.bit.Bit.{Bit}
use Rattle.dpi_bits.specs.declared.bit.Bit.TheVariants.{Zero, One, Z, X}
use Rattle.dpi_bits.specs.declared.word.Word4.{Word4}
use Rattle.dpi_bits.specs.Bits.{is_unknown}
use Rattle.dpi_bits.specs.Words.{aval, bit_of, held, bits_of}
use Rattle.dpi_bits.specs.Lists.{known}
use Rattle.dpi_bits.specs.Numbers.{digit, number, binary}
use Rattle.dpi_bits.specs.Parts.{spread}
use Rattle.dpi_bits.specs.Sought.{is_one}
use Rattle.dpi_bits.proofs.Held.{held_at, same_digits, length-bits_of, get_or-bits_of}
use Rattle.dpi_bits.proofs.Numbered.{number_at}
use Rattle.dpi_bits.proofs.Reductions.{known_at}
use Rattle.dpi_bits.proofs.Spread.{length-spread, spread_within, spread_past}

pub digit_lt : (b : Bit) → digit b < 2
digit_lt Zero = omega arith
digit_lt One = omega arith
digit_lt Z = omega arith
digit_lt X = omega arith

known_digit : (b : Bit) → is_unknown b ≡ false → aval b ≡ digit b
known_digit Zero h = refl
known_digit One h = refl
known_digit Z h = cc
known_digit X h = cc

no_digit : (b : Bit) → is_one b ≡ false → digit b ≡ 0
no_digit Zero h = refl
no_digit One h = cc
no_digit Z h = refl
no_digit X h = refl

one_digit : (b : Bit) → is_one b ≡ true → digit b ≡ 1
one_digit Zero h = cc
one_digit One h = refl
one_digit Z h = cc
one_digit X h = cc

pub digit_of : (bits : List Bit) (i : ℕ) → bit_at (number bits) i ≡ digit (get_or bits i Zero)
digit_of bits i = number_at digit digit_lt refl bits i

-- a 1 at a place makes the number as large
pub number_large : (bits : List Bit) (i k : ℕ) → k ≤ i → is_one (get_or bits i Zero) ≡ true → 2 ^ k ≤ number bits
number_large bits i k h one =
    let cases : (number bits < 2 ^ k) ⊎ (2 ^ k ≤ number bits) = search arith in
    let set : bit_at (number bits) i ≡ 1 = digit_of bits i ∙ one_digit (get_or bits i Zero) one in
    elim cases [
      | inl l ↦ absurd (omega (arith, set, bit_at_above (number bits) k i l h))
      | inr l ↦ l
    ]

-- 64 digits are the number of known bits with no 1 past them
pub digits_number : (n : ℕ) (bits : List Bit) → n < 2 ^ 64 → known bits ≡ true → ((i : ℕ) → 64 ≤ i → i < length bits → is_one (get_or bits i Zero) ≡ false) → ((i : ℕ) → i < 64 → bit_at n i ≡ aval (get_or bits i Zero)) → n ≡ number bits
digits_number n bits fits k none same =
    same_from_bits n (number bits)
    (λ i.
    let cases : (i < 64) ⊎ (64 ≤ i) = search arith in
    let ends : (i < length bits) ⊎ (length bits ≤ i) = search arith in
    elim cases [
      | inl l ↦ same i l ∙ known_digit (get_or bits i Zero) (known_at bits k i) ∙ sym (digit_of bits i)
      | inr l ↦
          bit_at_above n 64 i fits l
          ∙ sym (digit_of bits i
          ∙ elim ends [ inl m ↦ no_digit (get_or bits i Zero) (none i l m) | inr m ↦ ap digit (get_or_past bits i Zero m) ])
    ])

-- ---- the list that writes a number
pub length-binary : (width n : ℕ) → length (binary width n) ≡ width
length-binary width n = length-map-range_with_len (λ i. bit_of (bit_at n i) 0) 0 width

pub binary_at : (width n i : ℕ) (d : Bit) → i < width → get_or (binary width n) i d ≡ bit_of (bit_at n i) 0
binary_at width n i d h = get_or-map-range_with_len (λ k. bit_of (bit_at n k) 0) 0 width i i d h (omega arith)

pub binary_same : (width m n : ℕ) → ((i : ℕ) → i < width → bit_at m i ≡ bit_at n i) → binary width m ≡ binary width n
binary_same width m n same =
    ext_get_or Zero (binary width m) (binary width n) (length-binary width m ∙ sym (length-binary width n))
    (λ i h.
    let l : i < width = omega (arith, length-binary width m) in
    binary_at width m i Zero l ∙ ap (λ d. bit_of d 0) (same i l) ∙ sym (binary_at width n i Zero l))

-- the low digits stay under `%`
pub mod_digit : (n k i : ℕ) → i < k → bit_at (n % 2 ^ k) i ≡ bit_at n i
mod_digit n k i h = sym (bit_at_cat_low (n / 2 ^ k) k (n % 2 ^ k) i h) ∙ ap (λ m. bit_at m i) (shr_split n k)

capped : (p q : ℕ) → p < 2 → q ≡ 1 → min p q ≡ p
capped p q h e = omega arith

same_bit_at : (n i j : ℕ) → i ≡ j → bit_at n i ≡ bit_at n j
same_bit_at n i j e = ap (bit_at n) e

same_place : (bits : List Bit) (i j : ℕ) → i ≡ j → get_or bits i Zero ≡ get_or bits j Zero
same_place bits i j e = ap (λ k. get_or bits k Zero) e

-- two words that hold the 64 digits of a number
abbrev pub two_words : ℕ → List Word4
two_words value = record { aval = bit_and value 4294967295; bval = 0 } ∷ record { aval = value / 4294967296; bval = 0 } ∷ []

held_digit : (value i : ℕ) → i < 64 → held (two_words value) i ≡ bit_of (bit_at value i) 0
held_digit value i h =
    let cases : (i < 32) ⊎ (32 ≤ i) = search arith in
    elim cases [
      | inl l ↦
          sym (held_at (two_words value) i 0 i (omega arith) (omega arith))
          ∙ same_digits _ _ _ _ (bit_at_and value 4294967295 i ∙ capped _ _ (bit_at-lt value i) (bit_at_ones 32 i l)) (bit_at-zero i)
      | inr l ↦
          sym (held_at (two_words value) i 1 (i - 32) (omega arith) (omega arith))
          ∙ same_digits _ _ _ _ (ap (λ n. n % 2) (shr-shr value 32 (i - 32)) ∙ same_bit_at value (32 + (i - 32)) i (omega arith)) (bit_at-zero (i - 32))
    ]

pub written : (value width : ℕ) → value < 2 ^ 64 → spread (bits_of 64 (two_words value)) 0 0 Zero width ≡ binary width value
written value width fits =
    let list : List Bit = bits_of 64 (two_words value) in
    let size : length list ≡ 64 = length-bits_of 64 (two_words value) in
    ext_get_or Zero (spread list 0 0 Zero width) (binary width value) (length-spread list 0 0 Zero width ∙ sym (length-binary width value))
    (λ i h.
    let l : i < width = omega (arith, length-spread list 0 0 Zero width) in
    let cases : (i < 64) ⊎ (64 ≤ i) = search arith in
    elim cases [
      | inl m ↦
          spread_within list 0 0 Zero width i Zero l (omega arith) (omega arith)
          ∙ same_place list (0 + i - 0) i (omega arith)
          ∙ get_or-bits_of 64 (two_words value) i Zero m
          ∙ held_digit value i m
      | inr m ↦
          spread_past list 0 0 Zero width i Zero l (omega arith) (omega arith)
          ∙ sym (same_digits _ _ 0 0 (bit_at_above value 64 i fits m) refl)
    ]
    ∙ sym (binary_at width value i Zero l))
