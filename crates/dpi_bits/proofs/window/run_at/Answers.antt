use Rattle.std.proofs.Common.{ℕ, ◌+◌, ◌-◌, ◌/◌, ◌%◌, ◌<◌, ◌≤◌, ◌⊎◌, inl, inr, ◌∙◌, ap, arith}
use Rattle.dpi_bits.specs.Words.{bit_in}
use Rattle.dpi_bits.proofs.Held.{same_digits, held_at}
use Rattle.dpi_bits.proofs.window.run_at.Goals as goal

pub returns-clause-inside : goal.returns-clause-inside
returns-clause-inside c i k h =
    let r : ℕ = c.args.at % 32 in
    let cases : (i + r < 32) ⊎ (32 ≤ i + r) = search arith in
    elim cases [
      | inl near ↦
          same_digits _ _ _ _ (c.slide.ensures.near i k near) (c.slide-2.ensures.near i k near)
          ∙ ap (λ w. bit_in w (i + r)) (c.word_or_blank-low.ensures.inside (omega arith))
          ∙ held_at c.args.words.now (c.args.at + i - 2048) (c.args.at / 32 - 64) (i + r) (omega arith) (omega arith)
      | inr far ↦
          same_digits _ _ _ _ (c.slide.ensures.far i k far) (c.slide-2.ensures.far i k far)
          ∙ ap (λ w. bit_in w (i + r - 32)) (c.word_or_blank-high.ensures.inside (omega arith))
          ∙ held_at c.args.words.now (c.args.at + i - 2048) (c.args.at / 32 + 1 - 64) (i + r - 32) (omega arith) (omega arith)
    ]
