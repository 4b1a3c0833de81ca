-- A digit 1 in a masked number.
use Rattle.std.proofs.Common.{◌≡◌, ◌≢◌, ℕ, ◌^◌, ◌<◌, ◌≤◌, ◌⊎◌, inl, inr, Bool, true, false, cond, bit_and, min, w32, refl, ap, sym, ◌∙◌, arith}
use Rattle.std.specs.Int.{bit_at, trailing_zeros}
use Rattle.std.proofs.lemmas.Nat.{and_le_l}
use Rattle.std.proofs.lemmas.Nat.Bits.{bit_at_and, bit_at-lt, bit_at-trailing_zeros, bit_at-zero}

-- a number of 32 digits that is not 0 has a digit 1
pub some_digit : (n : ℕ) → n ≢ 0 → n < 2 ^ 32 → (k : ℕ) × (k < 32) × (bit_at n k ≡ 1)
some_digit n h fits =
    let positive : 0 < n = omega arith in
    let place : (trailing_zeros w32 n < 32) × (bit_at n (trailing_zeros w32 n) ≡ 1) × ((i : ℕ) → i < trailing_zeros w32 n → bit_at n i ≡ 0) = bit_at-trailing_zeros w32 n positive fits in
    (trailing_zeros w32 n, place.0, place.1)

chosen : (b : Bool) (n : ℕ) → n ≡ cond b 1 0 → n ≡ 1 → b ≡ true
chosen true n e f = refl
chosen false n e f = absurd (omega arith)

unchosen : (b : Bool) (n : ℕ) → n ≡ cond b 1 0 → n ≡ 0 → b ≡ false
unchosen true n e f = absurd (omega arith)
unchosen false n e f = refl

module _ (m o used : ℕ) (p : ℕ → Bool) (says : (k : ℕ) → k < 32 → bit_at m k ≡ cond (p k) 1 0) where
  pub found : m < 2 ^ 32 → bit_and m o ≢ 0 → ((k : ℕ) → used ≤ k → bit_at o k ≡ 0) → (k : ℕ) × (k < 32) × (k < used) × (p k ≡ true)
  found fits h above =
      let place : (k : ℕ) × (k < 32) × (bit_at (bit_and m o) k ≡ 1) = some_digit (bit_and m o) h (omega (arith, and_le_l m o)) in
      let k : ℕ = place.0 in
      let both : min (bit_at m k) (bit_at o k) ≡ 1 = sym (bit_at_and m o k) ∙ place.2 in
      let first : bit_at m k ≡ 1 = omega (arith, bit_at-lt m k, both) in
      let second : bit_at o k ≡ 1 = omega (arith, bit_at-lt o k, both) in
      let cases : (k < used) ⊎ (used ≤ k) = search arith in
      elim cases [
        | inl l ↦ (k, place.1, l, chosen (p k) (bit_at m k) (says k place.1) first)
        | inr l ↦ absurd (omega (arith, above k l, second))
      ]

  pub unfound : bit_and m o ≡ 0 → ((k : ℕ) → k < used → bit_at o k ≡ 1) → (k : ℕ) → k < 32 → k < used → p k ≡ false
  unfound h inside k l u =
      let both : min (bit_at m k) (bit_at o k) ≡ 0 = sym (bit_at_and m o k) ∙ ap (λ n. bit_at n k) h ∙ bit_at-zero k in
      let first : bit_at m k ≡ 0 = omega (arith, bit_at-lt m k, both, inside k u) in
      unchosen (p k) (bit_at m k) (says k l) first
