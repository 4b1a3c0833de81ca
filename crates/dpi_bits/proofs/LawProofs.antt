-- The laws on lists of bits.
use Rattle.std.proofs.Common.{◌≡◌, ℕ, ◌+◌, ◌-◌, ◌*◌, ◌/◌, ◌%◌, ◌<◌, ◌≤◌, ◌⊎◌, inl, inr, Bool, List, ◌++◌, length, get_or, take, drop, refl, ap, sym, ◌∙◌, arith, length-append}
use Rattle.std.proofs.lemmas.List.{ext_get_or, length-take, get_or-take, get_or-drop, get_or_append_left, get_or-append_right}
use Rattle.dpi_bits.specs.declared.bit.Bit.{Bit}
use Rattle.dpi_bits.specs.declared.bit.Bit.TheVariants.{Zero, One, Z, X}
use Rattle.dpi_bits.specs.Laws.{PartOfLowHalf, PartOfHighHalf, ResizedAndBack, EqualByWords}
use Rattle.dpi_bits.specs.Numbers.{word_of}
use Rattle.dpi_bits.specs.Parts.{spread, resized, extension}
use Rattle.dpi_bits.specs.Words.{aval, bval, bit_of, bit_in}
use Rattle.dpi_bits.proofs.Cut.{at_low, resized_is}
use Rattle.dpi_bits.proofs.Held.{same_digits}
use Rattle.dpi_bits.proofs.Numbered.{number_at, aval_lt, bval_lt}
use Rattle.dpi_bits.proofs.Spread.{length-spread, spread_within, spread_past}

at : (bits : List Bit) (i j : ℕ) → i ≡ j → get_or bits i Zero ≡ get_or bits j Zero
at bits i j e = ap (λ k. get_or bits k Zero) e

pub part_of_low : PartOfLowHalf
part_of_low high low from width h =
    sym (at_low (low ++ high) from width)
    ∙ ext_get_or Zero (spread (low ++ high) from 0 X width) (spread low from 0 X width) (length-spread (low ++ high) from 0 X width ∙ sym (length-spread low from 0 X width))
    (λ i k.
    let l : i < width = omega (arith, length-spread (low ++ high) from 0 X width) in
    let inside : from + i - 0 < length low = omega arith in
    spread_within (low ++ high) from 0 X width i Zero l (omega arith) (omega (arith, length-append low high))
    ∙ get_or_append_left low high Zero (from + i - 0) inside
    ∙ sym (spread_within low from 0 X width i Zero l (omega arith) inside))
    ∙ at_low low from width

pub part_of_high : PartOfHighHalf
part_of_high high low from width =
    sym (at_low (low ++ high) (length low + from) width)
    ∙ ext_get_or Zero (spread (low ++ high) (length low + from) 0 X width) (spread high from 0 X width) (length-spread (low ++ high) (length low + from) 0 X width ∙ sym (length-spread high from 0 X width))
    (λ i k.
    let l : i < width = omega (arith, length-spread (low ++ high) (length low + from) 0 X width) in
    let cases : (from + i - 0 < length high) ⊎ (length high ≤ from + i - 0) = search arith in
    elim cases [
      | inl inside ↦
          spread_within (low ++ high) (length low + from) 0 X width i Zero l (omega arith) (omega (arith, length-append low high))
          ∙ get_or-append_right low high (length low) (length low + from + i - 0) Zero refl (omega arith)
          ∙ at high (length low + from + i - 0 - length low) (from + i - 0) (omega arith)
          ∙ sym (spread_within high from 0 X width i Zero l (omega arith) inside)
      | inr past ↦
          spread_past (low ++ high) (length low + from) 0 X width i Zero l (omega arith) (omega (arith, length-append low high))
          ∙ sym (spread_past high from 0 X width i Zero l (omega arith) past)
    ])
    ∙ at_low high from width

-- a list that is cut keeps its low bits
cut_at : (width : ℕ) (signed : Bool) (bits : List Bit) (i : ℕ) → i < width → i < length bits → get_or (resized width signed bits) i Zero ≡ get_or bits i Zero
cut_at width signed bits i h l =
    ap (λ xs. get_or xs i Zero) (sym (resized_is width signed bits))
    ∙ spread_within bits 0 0 (extension signed bits) width i Zero h (omega arith) (omega arith)
    ∙ at bits (0 + i - 0) i (omega arith)

cut_length : (width : ℕ) (signed : Bool) (bits : List Bit) → length (resized width signed bits) ≡ width
cut_length width signed bits = ap length (sym (resized_is width signed bits)) ∙ length-spread bits 0 0 (extension signed bits) width

pub resized_back : ResizedAndBack
resized_back bits fewer signed back h =
    let cut : List Bit = resized fewer signed bits in
    let size : length cut ≡ fewer = cut_length fewer signed bits in
    let whole : length (resized (length bits) back cut) ≡ length bits = cut_length (length bits) back cut in
    ext_get_or Zero (take fewer (resized (length bits) back cut)) (take fewer bits)
    (omega (arith, length-take fewer (resized (length bits) back cut), length-take fewer bits))
    (λ i k.
    let l : i < fewer = omega (arith, length-take fewer (resized (length bits) back cut)) in
    get_or-take fewer (resized (length bits) back cut) i Zero l
    ∙ cut_at (length bits) back cut i (omega arith) (omega arith)
    ∙ cut_at fewer signed bits i l (omega arith)
    ∙ sym (get_or-take fewer bits i Zero l))

both_digits : (b : Bit) → bit_of (aval b) (bval b) ≡ b
both_digits Zero = refl
both_digits One = refl
both_digits Z = refl
both_digits X = refl

-- a bit of a word of a list is the list's
bit_of_word : (bits : List Bit) (j k : ℕ) → k < 32 → bit_in (word_of bits j) k ≡ get_or bits (32 * j + k) Zero
bit_of_word bits j k h =
    same_digits _ _ _ _ (number_at aval aval_lt refl (take 32 (drop (32 * j) bits)) k) (number_at bval bval_lt refl (take 32 (drop (32 * j) bits)) k)
    ∙ both_digits (get_or (take 32 (drop (32 * j) bits)) k Zero)
    ∙ get_or-take 32 (drop (32 * j) bits) k Zero h
    ∙ get_or-drop (32 * j) bits k Zero

pub by_words : EqualByWords
by_words a b e = (
  λ f j h. ap (λ l. word_of l j) f,
  λ f.
      ext_get_or Zero a b e
      (λ i l.
      at a i (32 * (i / 32) + i % 32) (omega arith)
      ∙ sym (bit_of_word a (i / 32) (i % 32) (omega arith))
      ∙ ap (λ w. bit_in w (i % 32)) (f (i / 32) (omega arith))
      ∙ bit_of_word b (i / 32) (i % 32) (omega arith)
      ∙ at b (32 * (i / 32) + i % 32) i (omega arith)),
)
