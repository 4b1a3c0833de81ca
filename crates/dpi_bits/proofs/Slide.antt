-- Two numbers of 32 digits side by side.
use Rattle.std.proofs.Common.{◌≡◌, ℕ, ◌+◌, ◌-◌, ◌*◌, ◌/◌, ◌%◌, ◌^◌, ◌<◌, ◌≤◌, min, ap, ◌∙◌, arith, bit_and, bit_or}
use Rattle.std.specs.Int.{bit_at}
use Rattle.std.proofs.lemmas.Nat.{shr-shr, shl_whole, or_shifted}
use Rattle.std.proofs.lemmas.Nat.Bits.{bit_at_and, bit_at_ones, bit_at-lt, bit_at_cat_low, bit_at_cat_high}

capped : (p q : ℕ) → p < 2 → q ≡ 1 → min p q ≡ p
capped p q h e = omega arith

pub side_by_side : (low high : ℕ) → low < 2 ^ 32 → high < 2 ^ 32 → bit_or (high * 4294967296 % 18446744073709551616) low ≡ high * 2 ^ 32 + low
side_by_side low high l h = ap (λ n. bit_or n low) (shl_whole high 32 32 64 h (omega arith)) ∙ or_shifted high 32 low l

-- the digits of what is left of both after `by` of them
slid : (low high by i : ℕ) → low < 2 ^ 32 → high < 2 ^ 32 → i < 32 → bit_at (bit_and (bit_or (high * 4294967296 % 18446744073709551616) low / 2 ^ by) 4294967295) i ≡ bit_at (high * 2 ^ 32 + low) (by + i)
slid low high by i l h k =
    bit_at_and (bit_or (high * 4294967296 % 18446744073709551616) low / 2 ^ by) 4294967295 i
    ∙ capped _ _ (bit_at-lt _ i) (bit_at_ones 32 i k)
    ∙ ap (λ n. n % 2) (shr-shr (bit_or (high * 4294967296 % 18446744073709551616) low) by i)
    ∙ ap (λ n. bit_at (bit_or n low) (by + i)) (shl_whole high 32 32 64 h (omega arith))
    ∙ ap (λ n. bit_at n (by + i)) (or_shifted high 32 low l)

pub slide_near : (low high by i : ℕ) → low < 2 ^ 32 → high < 2 ^ 32 → i < 32 → i + by < 32 → bit_at (bit_and (bit_or (high * 4294967296 % 18446744073709551616) low / 2 ^ by) 4294967295) i ≡ bit_at low (i + by)
slide_near low high by i l h k b =
    slid low high by i l h k ∙ bit_at_cat_low high 32 low (by + i) (omega arith) ∙ ap (bit_at low) (omega arith)

pub slide_far : (low high by i : ℕ) → low < 2 ^ 32 → high < 2 ^ 32 → i < 32 → 32 ≤ i + by → bit_at (bit_and (bit_or (high * 4294967296 % 18446744073709551616) low / 2 ^ by) 4294967295) i ≡ bit_at high (i + by - 32)
slide_far low high by i l h k b =
    slid low high by i l h k ∙ bit_at_cat_high high 32 low (by + i) l (omega arith) ∙ ap (bit_at high) (omega arith)
