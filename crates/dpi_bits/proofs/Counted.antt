-- How many digits of a number are 1, and the parity of a list.
use Rattle.std.proofs.Common.{◌≡◌, ℕ, zero, suc, ◌+◌, ◌*◌, ◌/◌, ◌%◌, ◌^◌, ◌<◌, ◌≤◌, ◌⊎◌, inl, inr, true, false, List, [], ◌∷◌, length, get_or, refl, ap, sym, ◌∙◌, arith}
use Rattle.std.specs.Int.{bit_at}
use Rattle.std.specs.Int.Count.{ones}
use Rattle.std.proofs.lemmas.Nat.{ones_cat, shr_split, shr_below, mod_below, pow_pos}
use Rattle.std.proofs.lemmas.Nat.Bits.{bit_at-lt}
use Rattle.dpi_bits.specs.declared.bit.Bit.{Bit}
use Rattle.dpi_bits.specs.declared.bit.Bit.TheVariants.{Zero, One, Z, X}
use Rattle.dpi_bits.specs.declared.word.Word4.{Word4}
use Rattle.dpi_bits.specs.Bits.{is_unknown, xor_bit}
use Rattle.dpi_bits.specs.Words.{aval, bit_of, blank, held}
use Rattle.dpi_bits.specs.Layout.{digits_below}
use Rattle.dpi_bits.specs.Lists.{known, reduce_xor}
use Rattle.dpi_bits.proofs.Held.{held_at}
use Rattle.dpi_bits.proofs.Numbered.{aval_in, aval_lt}
use Rattle.dpi_bits.proofs.Written.{mod_digit}

-- the sum of the lowest digits
digit_sum : ℕ → ℕ → ℕ
digit_sum n zero = 0
digit_sum n (suc k) = digit_sum n k + bit_at n k

digit_sum_same : (k m n : ℕ) → ((i : ℕ) → i < k → bit_at m i ≡ bit_at n i) → digit_sum m k ≡ digit_sum n k
unfolding digit_sum
digit_sum_same zero m n h = refl
digit_sum_same (suc k) m n h = ap (λ s. s + bit_at m k) (digit_sum_same k m n (λ i l. h i (omega arith))) ∙ ap (λ d. digit_sum n k + d) (h k (omega arith))

ones_digit : (d : ℕ) → d < 2 → ones d ≡ d
unfolding ones
ones_digit zero h = refl
ones_digit (suc zero) h = refl
ones_digit (suc (suc d)) h = absurd (omega arith)

one_more : (k : ℕ) → suc k ≡ 1 + k
one_more k = omega arith

top_digit : (n k : ℕ) → n < 2 ^ suc k → n / 2 ^ k ≡ bit_at n k
top_digit n k h =
    let wide : n < 2 ^ (1 + k) = rw (one_more k) at h in
    let small : n / 2 ^ k < 2 = shr_below n 1 k wide in
    omega arith

none : (n : ℕ) → n < 2 ^ 0 → n ≡ 0
none n h = omega arith

small : (n k : ℕ) → n % 2 ^ k < 2 ^ k
small n k = mod_below n (2 ^ k) (pow_pos k)

ones_sum : (k n : ℕ) → n < 2 ^ k → ones n ≡ digit_sum n k
unfolding digit_sum
ones_sum zero n h = ap ones (none n h) ∙ ones_digit 0 (omega arith)
ones_sum (suc k) n h =
    let top : ones (n / 2 ^ k) ≡ bit_at n k = ap ones (top_digit n k h) ∙ ones_digit (bit_at n k) (bit_at-lt n k) in
    let low : ones (n % 2 ^ k) ≡ digit_sum n k = ones_sum k (n % 2 ^ k) (small n k) ∙ digit_sum_same k (n % 2 ^ k) n (λ i l. mod_digit n k i l) in
    ap ones (sym (shr_split n k))
    ∙ ones_cat k (n / 2 ^ k) (n % 2 ^ k) (small n k)
    ∙ omega (arith, top, low)

-- ---- the digits of words
same_place : (words : List Word4) (m n : ℕ) → m ≡ n → digits_below words m ≡ digits_below words n
same_place words m n e = ap (digits_below words) e

digits_next : (words : List Word4) (n : ℕ) → digits_below words (suc n) ≡ digits_below words n + aval (held words n)
unfolding digits_below
digits_next words n = refl

next_place : (j k : ℕ) → 32 * j + suc k ≡ suc (32 * j + k)
next_place j k = omega arith

digits_word : (words : List Word4) (j k : ℕ) → k ≤ 32 → digits_below words (32 * j + k) ≡ digits_below words (32 * j) + digit_sum (get_or words j blank).aval k
unfolding digit_sum
digits_word words j zero h = same_place words (32 * j + 0) (32 * j) (omega arith) ∙ omega arith
digits_word words j (suc k) h =
    ap (digits_below words) (next_place j k)
    ∙ digits_next words (32 * j + k)
    ∙ omega (
      arith,
      digits_word words j k (omega arith),
      aval_in (get_or words j blank) k ∙ ap aval (held_at words (32 * j + k) j k (omega arith) (omega arith)),
    )

pub digits_step : (words : List Word4) (j : ℕ) → (get_or words j blank).aval < 2 ^ 32 → digits_below words (32 * j) + ones (get_or words j blank).aval ≡ digits_below words (32 * (j + 1))
digits_step words j h =
    omega (arith, ones_sum 32 (get_or words j blank).aval h, digits_word words j 32 (omega arith), same_place words (32 * (j + 1)) (32 * j + 32) (omega arith))

pub digits_le : (words : List Word4) (n : ℕ) → digits_below words n ≤ n
unfolding digits_below
digits_le words zero = omega arith
digits_le words (suc n) = omega (arith, digits_le words n, aval_lt (held words n))

-- ---- the parity of a list
count_at : List Bit → ℕ → ℕ
count_at bits zero = 0
count_at bits (suc n) = count_at bits n + aval (get_or bits n Zero)

count_is : (words : List Word4) (bits : List Bit) → ((i : ℕ) → held words i ≡ get_or bits i Zero) → (n : ℕ) → digits_below words n ≡ count_at bits n
unfolding digits_below count_at
count_is words bits same zero = refl
count_is words bits same (suc n) = ap (λ s. s + aval (held words n)) (count_is words bits same n) ∙ ap (λ b. count_at bits n + aval b) (same n)

count_nil : (n : ℕ) → count_at [] n ≡ 0
unfolding count_at
count_nil zero = refl
count_nil (suc n) = omega (arith, count_nil n)

count_cons : (b : Bit) (bs : List Bit) (n : ℕ) → count_at (b ∷ bs) (suc n) ≡ aval b + count_at bs n
unfolding count_at
count_cons b bs zero = omega arith
count_cons b bs (suc n) = omega (arith, count_cons b bs n)

flips_up : (n : ℕ) → n % 2 ≡ 0 → (1 + n) % 2 ≡ 1
flips_up n e = omega arith

flips_down : (n : ℕ) → n % 2 ≡ 1 → (1 + n) % 2 ≡ 0
flips_down n e = omega arith

stays : (n d : ℕ) → n % 2 ≡ d → (0 + n) % 2 ≡ d
stays n d e = omega arith

odd_one : (n : ℕ) → xor_bit One (bit_of (n % 2) 0) ≡ bit_of ((1 + n) % 2) 0
odd_one n =
    let cases : (n % 2 ≡ 0) ⊎ (n % 2 ≡ 1) = search arith in
    elim cases [
      | inl e ↦ ap (λ d. xor_bit One (bit_of d 0)) e ∙ sym (ap (λ d. bit_of d 0) (flips_up n e))
      | inr e ↦ ap (λ d. xor_bit One (bit_of d 0)) e ∙ sym (ap (λ d. bit_of d 0) (flips_down n e))
    ]

odd_zero : (n : ℕ) → xor_bit Zero (bit_of (n % 2) 0) ≡ bit_of ((0 + n) % 2) 0
odd_zero n =
    let cases : (n % 2 ≡ 0) ⊎ (n % 2 ≡ 1) = search arith in
    elim cases [
      | inl e ↦ ap (λ d. xor_bit Zero (bit_of d 0)) e ∙ sym (ap (λ d. bit_of d 0) (stays n 0 e))
      | inr e ↦ ap (λ d. xor_bit Zero (bit_of d 0)) e ∙ sym (ap (λ d. bit_of d 0) (stays n 1 e))
    ]

first_known : (b : Bit) (bs : List Bit) → known (b ∷ bs) ≡ true → known bs ≡ true
first_known Zero bs h = h
first_known One bs h = h
first_known Z bs h = cc
first_known X bs h = cc

parity_is : (bits : List Bit) (n : ℕ) → length bits ≤ n → known bits ≡ true → reduce_xor bits ≡ bit_of (count_at bits n % 2) 0
parity_is [] n l k = sym (ap (λ c. bit_of (c % 2) 0) (count_nil n))
parity_is (b ∷ bs) zero l k = absurd (omega arith)
parity_is (Zero ∷ bs) (suc n) l k =
    ap (xor_bit Zero) (parity_is bs n (omega arith) k) ∙ odd_zero (count_at bs n) ∙ sym (ap (λ c. bit_of (c % 2) 0) (count_cons Zero bs n))
parity_is (One ∷ bs) (suc n) l k =
    ap (xor_bit One) (parity_is bs n (omega arith) k) ∙ odd_one (count_at bs n) ∙ sym (ap (λ c. bit_of (c % 2) 0) (count_cons One bs n))
parity_is (Z ∷ bs) (suc n) l k = cc
parity_is (X ∷ bs) (suc n) l k = cc

unknown_left : (b c : Bit) → is_unknown b ≡ true → xor_bit b c ≡ X
unknown_left Zero c h = cc
unknown_left One c h = cc
unknown_left Z Zero h = refl
unknown_left Z One h = refl
unknown_left Z Z h = refl
unknown_left Z X h = refl
unknown_left X Zero h = refl
unknown_left X One h = refl
unknown_left X Z h = refl
unknown_left X X h = refl

pub xor_unknown : (bits : List Bit) → known bits ≡ false → reduce_xor bits ≡ X
xor_unknown [] h = cc
xor_unknown (Zero ∷ bs) h = ap (xor_bit Zero) (xor_unknown bs h)
xor_unknown (One ∷ bs) h = ap (xor_bit One) (xor_unknown bs h)
xor_unknown (Z ∷ bs) h = unknown_left Z (reduce_xor bs) refl
xor_unknown (X ∷ bs) h = unknown_left X (reduce_xor bs) refl

pub parity_of : (words : List Word4) (bits : List Bit) → ((i : ℕ) → held words i ≡ get_or bits i Zero) → (n : ℕ) → length bits ≤ n → known bits ≡ true → reduce_xor bits ≡ bit_of (digits_below words n % 2) 0
parity_of words bits same n l k = parity_is bits n l k ∙ sym (ap (λ c. bit_of (c % 2) 0) (count_is words bits same n))
