-- Words that are written in place.
use Rattle.std.proofs.Common.{◌≡◌, ℕ, ◌+◌, ◌-◌, ◌*◌, ◌/◌, ◌<◌, ◌≤◌, ◌⊎◌, inl, inr, List, ◌++◌, length, get_or, take, drop, set, ap, sym, ◌∙◌, arith}
use Rattle.std.specs.List.{refill}
use Rattle.std.proofs.Math.Seq.{take-append_seam}
use Rattle.dpi_bits.specs.declared.bit.Bit.{Bit}
use Rattle.dpi_bits.specs.declared.bit.Bit.TheVariants.{Zero}
use Rattle.dpi_bits.specs.declared.word.Word4.{Word4}
use Rattle.dpi_bits.specs.Words.{bit_in, blank, held, bits_of}
use Rattle.dpi_bits.specs.Layout.{IsCanonical}
use Rattle.dpi_bits.proofs.Held.{canonical_from, list_from, length-bits_of, bits_are_held, held_at, held_set_same, held_set_other}

pub refill_same : (words new : List Word4) → length new ≡ length words → refill (length words) words new ≡ new
refill_same words new e = ap (λ n. take n (new ++ drop (length new) words)) (sym e) ∙ take-append_seam new (drop (length new) words)

pub width_is : (width : ℕ) (words : List Word4) (bits : List Bit) → bits_of width words ≡ bits → length bits ≡ width
width_is width words bits v = ap length (sym v) ∙ length-bits_of width words

pub held_is : (width : ℕ) (words : List Word4) (bits : List Bit) → bits_of width words ≡ bits → IsCanonical width words → (i : ℕ) → held words i ≡ get_or bits i Zero
held_is width words bits v canonical i = bits_are_held width words canonical i ∙ ap (λ l. get_or l i Zero) v

module _ (width : ℕ) (words new : List Word4) (bits after : List Bit)
    (canonical : IsCanonical width words) (v : bits_of width words ≡ bits) (kept : length new ≡ length words)
    (same : length after ≡ length bits) (holds : (i : ℕ) → i < 32 * length new → held new i ≡ get_or after i Zero) where
  count : length new ≡ (width + 31) / 32
  count = kept ∙ canonical.count

  pub closed : IsCanonical width (refill (length words) words new)
  closed = rw (refill_same words new kept) (canonical_from width new after canonical.least canonical.most count (same ∙ width_is width words bits v) holds)

  pub closed_view : bits_of width (refill (length words) words new) ≡ after
  closed_view = rw (refill_same words new kept) (list_from width new after count (same ∙ width_is width words bits v) holds)

-- a loop that writes word after word
module _ (words : List Word4) (word : Word4) (n : ℕ) (inside : n < length words) where
  pub written_more : (target : ℕ → Bit) → ((i : ℕ) → i < 32 * n → held words i ≡ target i) → ((k : ℕ) → k < 32 → bit_in word k ≡ target (32 * n + k)) → (i : ℕ) → i < 32 * (n + 1) → held (set words n word) i ≡ target i
  written_more target before here i h =
      let cases : (i < 32 * n) ⊎ (32 * n ≤ i) = search arith in
      elim cases [
        | inl l ↦ held_set_other words word n i (λ e. omega arith) ∙ before i l
        | inr l ↦
            held_set_same words word n i (i - 32 * n) inside (omega arith) (omega arith)
            ∙ here (i - 32 * n) (omega arith)
            ∙ ap target (omega arith)
      ]

  pub rest_kept : (old : ℕ → Bit) → ((i : ℕ) → 32 * n ≤ i → held words i ≡ old i) → (i : ℕ) → 32 * (n + 1) ≤ i → held (set words n word) i ≡ old i
  rest_kept old rest i h = held_set_other words word n i (λ e. omega arith) ∙ rest i (omega arith)

-- a bit of a word that the loop has still to write
pub still : (words : List Word4) (n k : ℕ) (old : ℕ → Bit) → k < 32 → ((i : ℕ) → 32 * n ≤ i → held words i ≡ old i) → bit_in (get_or words n blank) k ≡ old (32 * n + k)
still words n k old h rest = held_at words (32 * n + k) n k (omega arith) (omega arith) ∙ rest (32 * n + k) (omega arith)
