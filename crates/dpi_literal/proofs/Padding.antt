-- A padded list of bits that takes the bits of one more digit.
use Rattle.std.proofs.Common.{◌≡◌, ℕ, ◌+◌, ◌-◌, ◌<◌, ◌≤◌, ◌⊎◌, inl, inr, min, List, ◌++◌, length, get_or, take, drop}
use Rattle.std.proofs.Common.{replicate, refl, ap, sym, ◌∙◌, arith, length-append}
use Rattle.std.specs.Prelude.{pos}
use Rattle.std.proofs.lemmas.List.{ext_get_or, length-replicate, length-take, get_or-take, get_or_append_left}
use Rattle.std.proofs.lemmas.List.{get_or-append_right, get_or-replicate, drop_more}
use Rattle.dpi_bits.specs.declared.bit.Bit.{Bit}
use Rattle.dpi_bits.specs.declared.bit.Bit.TheVariants.{Zero}
use Rattle.dpi_bits.specs.Parts.{put}
use Rattle.dpi_literal.specs.SvNumber.{written, digit_bits}
use Rattle.dpi_bits.proofs.ListsAt.{put_pos_before, put_pos_within, put_pos_past, length-put_pos}

-- bits cut or filled up to a width
abbrev pub filled_up : ℕ → Bit → List Bit → List Bit
filled_up width f bits = take width (bits ++ replicate width f)

pub length-filled_up : (width : ℕ) (f : Bit) (bits : List Bit) → length (filled_up width f bits) ≡ width
length-filled_up width f bits =
    omega (arith, length-take width (bits ++ replicate width f), length-append bits (replicate width f), length-replicate width f)

filled_up_within : (width : ℕ) (f : Bit) (bits : List Bit) (i : ℕ) → i < width → i < length bits →
    get_or (filled_up width f bits) i Zero ≡ get_or bits i Zero
filled_up_within width f bits i h k =
    get_or-take width (bits ++ replicate width f) i Zero h
    ∙ get_or_append_left bits (replicate width f) Zero i k

filled_up_past : (width : ℕ) (f : Bit) (bits : List Bit) (i : ℕ) → i < width → length bits ≤ i →
    get_or (filled_up width f bits) i Zero ≡ f
filled_up_past width f bits i h k =
    get_or-take width (bits ++ replicate width f) i Zero h
    ∙ get_or-append_right bits (replicate width f) (length bits) i Zero refl k
    ∙ get_or-replicate width (i - length bits) f Zero (omega arith)

-- the bits at each place once a digit has been put
put_at : (width : ℕ) (f : Bit) (done d : List Bit) (low i : ℕ) → low ≡ min (length done) width → i < width →
    get_or (put (pos low) d (filled_up width f done)) i Zero ≡ get_or (filled_up width f (done ++ d)) i Zero
put_at width f done d low i e h =
    let size : length (filled_up width f done) ≡ width = length-filled_up width f done in
    let sum : length (done ++ d) ≡ length done + length d = length-append done d in
    let cases : (i < low) ⊎ (low ≤ i) = search arith in
    elim cases [
      | inl k ↦
          put_pos_before low d (filled_up width f done) i (omega arith) k
          ∙ filled_up_within width f done i h (omega arith)
          ∙ sym (filled_up_within width f (done ++ d) i h (omega arith)
          ∙ get_or_append_left done d Zero i (omega arith))
      | inr k ↦
          let same : low ≡ length done = omega arith in
          let ends : (i - low < length d) ⊎ (length d ≤ i - low) = search arith in
          elim ends [
            | inl m ↦
                put_pos_within low d (filled_up width f done) i (omega arith) k m
                ∙ sym (filled_up_within width f (done ++ d) i h (omega arith)
                ∙ get_or-append_right done d low i Zero (sym same) k)
            | inr m ↦
                put_pos_past low d (filled_up width f done) i (omega arith) k m
                ∙ filled_up_past width f done i h (omega arith)
                ∙ sym (filled_up_past width f (done ++ d) i h (omega arith))
          ]
    ]

-- a digit that is put behind the digits that stand already
pub put_digit_padded : (width : ℕ) (f : Bit) (done d : List Bit) (low : ℕ) → low ≡ min (length done) width →
    put (pos low) d (filled_up width f done) ≡ filled_up width f (done ++ d)
put_digit_padded width f done d low e =
    let size : length (put (pos low) d (filled_up width f done)) ≡ width =
    length-put_pos low d (filled_up width f done) ∙ length-filled_up width f done in
    ext_get_or
    Zero
    (put (pos low) d (filled_up width f done))
    (filled_up width f (done ++ d))
    (size ∙ sym (length-filled_up width f (done ++ d)))
    (λ i h. put_at width f done d low i e (omega arith))

-- putting no bits, or bits past the end, changes nothing
pub put_nothing : (low : ℕ) (d old : List Bit) → (length d ≡ 0) ⊎ (length old ≤ low) → put (pos low) d old ≡ old
put_nothing low d old none =
    ext_get_or
    Zero
    (put (pos low) d old)
    old
    (length-put_pos low d old)
    (λ i h.
    let inside : i < length old = omega (arith, length-put_pos low d old) in
    at i inside none)
  where
    at : (i : ℕ) → i < length old → (length d ≡ 0) ⊎ (length old ≤ low) →
        get_or (put (pos low) d old) i Zero ≡ get_or old i Zero
    at i h (inr past) = put_pos_before low d old i h (omega arith)
    at i h (inl empty) =
        let cases : (i < low) ⊎ (low ≤ i) = search arith in
        elim cases [
          | inl k ↦ put_pos_before low d old i h k
          | inr k ↦ put_pos_past low d old i h k (omega arith)
        ]

-- one more digit from the right
pub written_more : (base : ℕ) (digits : List ℕ) (i : ℕ) → i < length digits →
    written base (drop (length digits - (i + 1)) digits)
    ≡ written base (drop (length digits - i) digits) ++ digit_bits base (get_or digits (length digits - 1 - i) 0)
written_more base digits i h =
    let k = length digits - (i + 1) in
    let next : k + 1 ≡ length digits - i = omega arith in
    let here : k ≡ length digits - 1 - i = omega arith in
    ap (written base) (drop_more digits k 0 (omega arith))
    ∙ ap (λ m. written base (drop m digits) ++ digit_bits base (get_or digits k 0)) next
    ∙ ap (λ m. written base (drop (length digits - i) digits) ++ digit_bits base (get_or digits m 0)) here
