use Rattle.std.proofs.Common.{◌-◌, ◌<◌, ◌≤◌, ◌⊎◌, inl, inr, get_or, ap, ◌∙◌, arith}
use Rattle.dpi_bits.specs.Words.{aval, bit_in, blank}
use Rattle.dpi_bits.proofs.Held.{held_at}
use Rattle.dpi_bits.proofs.InPlace.{held_is}
use Rattle.dpi_bits.proofs.Numbered.{aval_in}
use Rattle.dpi_bits.proofs.packed.Packed.low_digits.Goals as goal

pub returns : goal.returns
returns c i h =
    let cases : (i < 32) ⊎ (32 ≤ i) = search arith in
    elim cases [
      | inl l ↦
          c.joined.ensures.near i l
          ∙ aval_in c.word_or_blank-low.result i
          ∙ ap aval
          (ap (λ w. bit_in w i) (c.word_or_blank-low.ensures.inside (omega arith) ∙ ap (λ ws. get_or ws 0 blank) c.as_slice.ensures)
          ∙ held_at c.self.inside.words.items i 0 i (omega arith) (omega arith)
          ∙ held_is c.self.inside.width c.self.inside.words.items c.args.self.now c.self.view_is c.self.invariant i)
      | inr l ↦
          c.joined.ensures.far i l
          ∙ aval_in c.word_or_blank-high.result (i - 32)
          ∙ ap aval
          (ap (λ w. bit_in w (i - 32)) (c.word_or_blank-high.ensures.inside (omega arith) ∙ ap (λ ws. get_or ws 1 blank) c.as_slice-2.ensures)
          ∙ held_at c.self.inside.words.items i 1 (i - 32) (omega arith) (omega arith)
          ∙ held_is c.self.inside.width c.self.inside.words.items c.args.self.now c.self.view_is c.self.invariant i)
    ]
