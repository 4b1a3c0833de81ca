-- A window over a list puts another list into it.
use Rattle.std.proofs.Common.{◌≡◌, ℕ, suc, ◌+◌, ◌-◌, ◌<◌, ◌≤◌, ◌⊎◌, inl, inr, min, List, length, get_or, pos, negsuc, ap, sym, ◌∙◌, arith}
use Rattle.std.proofs.lemmas.List.{get_or_past}
use Rattle.dpi_bits.specs.declared.bit.Bit.{Bit}
use Rattle.dpi_bits.specs.declared.bit.Bit.TheVariants.{Zero}
use Rattle.dpi_bits.specs.declared.word.Word4.{Word4}
use Rattle.dpi_bits.specs.Words.{held}
use Rattle.dpi_bits.specs.Layout.{overlaid}
use Rattle.dpi_bits.specs.Parts.{put}
use Rattle.dpi_bits.proofs.ListsAt.{put_pos_before, put_pos_within, put_pos_past, length-put_pos, put_neg_within, put_neg_past, length-put_neg}
use Rattle.dpi_bits.proofs.Overlaid.{overlaid_out, overlaid_before, overlaid_within, overlaid_past}

least : (m n : ℕ) → m ≤ n → min m n ≡ m
least m n h = omega arith

same_bit : (bits : List Bit) (i j : ℕ) → i ≡ j → get_or bits i Zero ≡ get_or bits j Zero
same_bit bits i j e = ap (λ k. get_or bits k Zero) e

module _ (from : List Word4) (bits width : ℕ) (value old : List Bit) (e : bits ≡ length value) (f : width ≡ length old)
    (same : (k : ℕ) → k < bits → held from k ≡ get_or value k Zero) (i : ℕ) where
  -- at a place of the list or above it
  pub put_at : (low : ℕ) → overlaid from bits 0 low width i (get_or old i Zero) ≡ get_or (put (pos low) value old) i Zero
  put_at low =
      let left : (i < width) ⊎ (width ≤ i) = search arith in
      let raised : (i < low) ⊎ (low ≤ i) = search arith in
      let ends : (i - low < bits) ⊎ (bits ≤ i - low) = search arith in
      elim left [
        | inr out ↦
            overlaid_out from bits 0 low width i (get_or old i Zero) out
            ∙ sym (get_or_past (put (pos low) value old) i Zero (omega (arith, length-put_pos low value old)))
        | inl in_ ↦
            elim raised [
              | inl before ↦ overlaid_before from bits 0 low width i (get_or old i Zero) in_ (omega arith) ∙ sym (put_pos_before low value old i (omega arith) before)
              | inr after ↦
                  elim ends [
                    | inl within ↦
                        overlaid_within from bits 0 low width i (get_or old i Zero) in_ (omega arith) (omega arith)
                        ∙ same (0 + i - low) (omega arith)
                        ∙ same_bit value (0 + i - low) (i - low) (omega arith)
                        ∙ sym (put_pos_within low value old i (omega arith) after (omega arith))
                    | inr past ↦ overlaid_past from bits 0 low width i (get_or old i Zero) in_ (omega arith) (omega arith) ∙ sym (put_pos_past low value old i (omega arith) after (omega arith))
                  ]
            ]
      ]

  -- from a place below the list
  pub put_below : (below : ℕ) → overlaid from bits (suc below) 0 width i (get_or old i Zero) ≡ get_or (put (negsuc below) value old) i Zero
  put_below below =
      let left : (i < width) ⊎ (width ≤ i) = search arith in
      let ends : (suc below + i < bits) ⊎ (bits ≤ suc below + i) = search arith in
      elim left [
        | inr out ↦
            overlaid_out from bits (suc below) 0 width i (get_or old i Zero) out
            ∙ sym (get_or_past (put (negsuc below) value old) i Zero (omega (arith, length-put_neg (suc below) value old)))
        | inl in_ ↦
            elim ends [
              | inl within ↦
                  overlaid_within from bits (suc below) 0 width i (get_or old i Zero) in_ (omega arith) (omega arith)
                  ∙ same (suc below + i - 0) (omega arith)
                  ∙ same_bit value (suc below + i - 0) (suc below + i) (omega arith)
                  ∙ sym (put_neg_within (suc below) value old i (omega arith) (omega arith))
              | inr past ↦ overlaid_past from bits (suc below) 0 width i (get_or old i Zero) in_ (omega arith) (omega arith) ∙ sym (put_neg_past (suc below) value old i (omega arith) (omega arith))
            ]
      ]

-- a place past the list is as good as any other
pub overlaid_far : (from : List Word4) (bits low width i : ℕ) (old : Bit) → width ≤ 1024 → overlaid from bits 0 (min low 1024) width i old ≡ overlaid from bits 0 low width i old
overlaid_far from bits low width i old most =
    let near : (low ≤ 1024) ⊎ (1024 ≤ low) = search arith in
    let left : (i < width) ⊎ (width ≤ i) = search arith in
    elim near [
      | inl l ↦ ap (λ n. overlaid from bits 0 n width i old) (least low 1024 l)
      | inr l ↦
          elim left [
            | inr out ↦ overlaid_out from bits 0 (min low 1024) width i old out ∙ sym (overlaid_out from bits 0 low width i old out)
            | inl in_ ↦ overlaid_before from bits 0 (min low 1024) width i old in_ (omega arith) ∙ sym (overlaid_before from bits 0 low width i old in_ (omega arith))
          ]
    ]

pub overlaid_deep : (from : List Word4) (bits below width i : ℕ) (old : Bit) → bits ≤ 1024 → overlaid from bits (min below 1024) 0 width i old ≡ overlaid from bits below 0 width i old
overlaid_deep from bits below width i old most =
    let near : (below ≤ 1024) ⊎ (1024 ≤ below) = search arith in
    let left : (i < width) ⊎ (width ≤ i) = search arith in
    elim near [
      | inl l ↦ ap (λ n. overlaid from bits n 0 width i old) (least below 1024 l)
      | inr l ↦
          elim left [
            | inr out ↦ overlaid_out from bits (min below 1024) 0 width i old out ∙ sym (overlaid_out from bits below 0 width i old out)
            | inl in_ ↦ overlaid_past from bits (min below 1024) 0 width i old in_ (omega arith) (omega arith) ∙ sym (overlaid_past from bits below 0 width i old in_ (omega arith) (omega arith))
          ]
    ]
