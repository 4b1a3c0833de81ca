use Rattle.std.proofs.Common.{sym, ap, ◌∙◌}
use Rattle.dpi_bits.specs.declared.bit.Bit.TheVariants.{Zero}
use Rattle.dpi_bits.specs.Parts.{spread}
use Rattle.dpi_bits.proofs.Answered.{if_ok}
use Rattle.dpi_bits.proofs.Spread.{spread_whole}
use Rattle.dpi_bits.proofs.packed.Packed.copied.Goals as goal

pub returns-clause-bits : goal.returns-clause-bits
returns-clause-bits c =
    if_ok c.seen_through.result _ _
    (ap (λ w. spread c.args.self.now w.start w.back w.outside c.width.result) c.whole.ensures ∙ spread_whole c.args.self.now Zero c.width.result (sym c.width.ensures.bits))
    c.seen_through.ensures.bits
