use Rattle.std.proofs.Common.{◌≡◌, ◌+◌, ◌/◌, length, arith, ◌∙◌}
use Rattle.dpi_bits.specs.Words.{bits_of}
use Rattle.dpi_bits.proofs.Held.{canonical_from, list_from}
use Rattle.dpi_bits.proofs.Overlaid.{spread_by_overlaid}
use Rattle.dpi_bits.proofs.Spread.{length-spread}
use Rattle.dpi_bits.proofs.window.gather.Goals as goal

pub invariant_of-result : goal.invariant_of-result
invariant_of-result c =
    let made : length c.loop-j.words.items ≡ (c.args.width + 31) / 32 = omega (arith, c.div_ceil-count.ensures) in
    canonical_from c.args.width c.loop-j.words.items _ c.requires.least c.requires.most made (length-spread (bits_of c.args.bits c.args.from.now) c.args.window.start c.args.window.back c.args.window.outside c.args.width) (λ i h. c.loop-j.invariant.bits i (omega arith) ∙ spread_by_overlaid c.args.from.now c.args.bits c.args.window.start c.args.window.back c.args.width i c.args.window.outside)

pub returns-clause-bits : goal.returns-clause-bits
returns-clause-bits c =
    let made : length c.loop-j.words.items ≡ (c.args.width + 31) / 32 = omega (arith, c.div_ceil-count.ensures) in
    list_from c.args.width c.loop-j.words.items _ made (length-spread (bits_of c.args.bits c.args.from.now) c.args.window.start c.args.window.back c.args.window.outside c.args.width) (λ i h. c.loop-j.invariant.bits i (omega arith) ∙ spread_by_overlaid c.args.from.now c.args.bits c.args.window.start c.args.window.back c.args.width i c.args.window.outside)
