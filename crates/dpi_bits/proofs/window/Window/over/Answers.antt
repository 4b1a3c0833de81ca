use Rattle.std.proofs.Common.{ℕ, ◌+◌, ◌-◌, ◌<◌, ◌≤◌, ◌⊎◌, inl, inr, ◌∙◌, sym, ap, arith, List}
use Rattle.dpi_bits.specs.declared.word.Word4.{Word4}
use Rattle.dpi_bits.specs.Words.{bit_in, held}
use Rattle.dpi_bits.proofs.Overlaid.{overlaid_out, overlaid_before, overlaid_within, overlaid_past}
use Rattle.dpi_bits.proofs.window.Window.over.Goals as goal

pub returns : goal.returns
returns c i h =
    let from : List Word4 = c.args.from.now in
    let bits : ℕ = c.args.bits in
    let start : ℕ = c.args.self.start in
    let back : ℕ = c.args.self.back in
    let n : ℕ = c.args.skip + i in
    let left : (n < c.args.width) ⊎ (c.args.width ≤ n) = search arith in
    let raised : (start + n < back) ⊎ (back ≤ start + n) = search arith in
    let ends : (start + n - back < bits) ⊎ (bits ≤ start + n - back) = search arith in
    elim left [
      | inr out ↦
          c.choose-2.ensures.outside i h (c.ones_between.ensures.above i (omega arith)) ∙ c.filled.ensures i h
          ∙ sym (overlaid_out from bits start back c.args.width n (bit_in c.args.old i) out)
      | inl in_ ↦
          c.choose-2.ensures.inside i h (c.ones_between.ensures.inside i (omega arith) (omega arith))
          ∙ elim raised [
            | inl before ↦
                c.choose.ensures.outside i h (c.cover.ensures.before i h before)
                ∙ sym (overlaid_before from bits start back c.args.width n (bit_in c.args.old i) in_ before)
            | inr after ↦
                elim ends [
                  | inl within ↦
                      c.choose.ensures.inside i h (c.cover.ensures.inside i h after within)
                      ∙ c.run_at.ensures.inside i h (omega arith)
                      ∙ ap (held from) (omega arith)
                      ∙ sym (overlaid_within from bits start back c.args.width n (bit_in c.args.old i) in_ after within)
                  | inr past ↦
                      c.choose.ensures.outside i h (c.cover.ensures.past i h after past)
                      ∙ sym (overlaid_past from bits start back c.args.width n (bit_in c.args.old i) in_ after past)
                ]
          ]
    ]
