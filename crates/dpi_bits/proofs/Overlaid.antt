-- The cases of a window over a list.
use Rattle.std.proofs.Common.{◌≡◌, ℕ, ◌+◌, ◌-◌, ◌<◌, ◌≤◌, ◌⊎◌, inl, inr, true, false, ltb, List, length, get_or, sym, ◌∙◌, arith}
use Rattle.dpi_bits.specs.declared.bit.Bit.{Bit}
use Rattle.dpi_bits.specs.declared.bit.Bit.TheVariants.{Zero}
use Rattle.dpi_bits.specs.declared.word.Word4.{Word4}
use Rattle.dpi_bits.specs.Words.{held, bits_of}
use Rattle.dpi_bits.specs.Layout.{overlaid}
use Rattle.dpi_bits.specs.Parts.{spread}
use Rattle.dpi_bits.proofs.Held.{length-bits_of, get_or-bits_of}
use Rattle.dpi_bits.proofs.Spread.{spread_out, spread_before, spread_within, spread_past}

below : (m n : ℕ) → m < n → ltb m n ≡ true
below m n h = search arith

not_below : (m n : ℕ) → n ≤ m → ltb m n ≡ false
not_below m n h = search arith

module _ (from : List Word4) (bits start back width i : ℕ) (old : Bit) where
  pub overlaid_out : width ≤ i → overlaid from bits start back width i old ≡ Zero
  unfolding overlaid
  overlaid_out h = rw (not_below i width h)

  pub overlaid_before : i < width → start + i < back → overlaid from bits start back width i old ≡ old
  unfolding overlaid
  overlaid_before h k = rw (below i width h, below (start + i) back k)

  pub overlaid_within : i < width → back ≤ start + i → start + i - back < bits → overlaid from bits start back width i old ≡ held from (start + i - back)
  unfolding overlaid
  overlaid_within h k l = rw (below i width h, not_below (start + i) back k, below (start + i - back) bits l)

  pub overlaid_past : i < width → back ≤ start + i → bits ≤ start + i - back → overlaid from bits start back width i old ≡ old
  unfolding overlaid
  overlaid_past h k l = rw (below i width h, not_below (start + i) back k, not_below (start + i - back) bits l)

-- over bits outside, the window takes what it spreads
pub spread_by_overlaid : (from : List Word4) (bits start back width i : ℕ) (outside : Bit) → overlaid from bits start back width i outside ≡ get_or (spread (bits_of bits from) start back outside width) i Zero
spread_by_overlaid from bits start back width i outside =
    let e : length (bits_of bits from) ≡ bits = length-bits_of bits from in
    let left : (i < width) ⊎ (width ≤ i) = search arith in
    let raised : (start + i < back) ⊎ (back ≤ start + i) = search arith in
    let ends : (start + i - back < bits) ⊎ (bits ≤ start + i - back) = search arith in
    elim left [
      | inr out ↦ overlaid_out from bits start back width i outside out ∙ sym (spread_out (bits_of bits from) start back outside width i Zero out)
      | inl in_ ↦
          elim raised [
            | inl before ↦ overlaid_before from bits start back width i outside in_ before ∙ sym (spread_before (bits_of bits from) start back outside width i Zero in_ before)
            | inr after ↦
                elim ends [
                  | inl within ↦
                      overlaid_within from bits start back width i outside in_ after within
                      ∙ sym (get_or-bits_of bits from (start + i - back) Zero within)
                      ∙ sym (spread_within (bits_of bits from) start back outside width i Zero in_ after (rw e within))
                  | inr past ↦ overlaid_past from bits start back width i outside in_ after past ∙ sym (spread_past (bits_of bits from) start back outside width i Zero in_ after (rw e past))
                ]
          ]
    ]
