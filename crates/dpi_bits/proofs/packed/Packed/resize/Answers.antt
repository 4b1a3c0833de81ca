use Rattle.std.proofs.Common.{ap, ◌∙◌}
use Rattle.dpi_bits.specs.Parts.{spread}
use Rattle.dpi_bits.proofs.Answered.{if_ok}
use Rattle.dpi_bits.proofs.Cut.{resized_is}
use Rattle.dpi_bits.proofs.packed.Packed.resize.Goals as goal

pub returns-clause-bits : goal.returns-clause-bits
returns-clause-bits c =
    if_ok c.seen_through.result _ _
    (ap (λ w. spread c.args.self.now w.start w.back w.outside c.args.width) c.whole.ensures
    ∙ ap (λ b. spread c.args.self.now 0 0 b c.args.width) c.extension.ensures
    ∙ resized_is c.args.width c.args.signed c.args.self.now)
    c.seen_through.ensures.bits
