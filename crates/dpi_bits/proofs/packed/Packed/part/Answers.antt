use Rattle.std.proofs.Common.{ap, ◌∙◌, w64}
use Rattle.std.proofs.lemmas.Int.{to_z-of_z}
use Rattle.dpi_bits.specs.declared.bit.Bit.TheVariants.{X}
use Rattle.dpi_bits.specs.Layout.{window_from}
use Rattle.dpi_bits.specs.Parts.{spread}
use Rattle.dpi_bits.proofs.Answered.{if_ok}
use Rattle.dpi_bits.proofs.Cut.{part_is, window_outside}
use Rattle.dpi_bits.proofs.packed.Packed.part.Goals as goal

pub returns-clause-bits : goal.returns-clause-bits
returns-clause-bits c =
    if_ok c.seen_through.result _ _
    (ap (λ w. spread c.args.self.now w.start w.back w.outside c.args.width) (c.from_bit.ensures ∙ ap (λ z. window_from z X) (to_z-of_z w64 c.args.low c.ranges.low))
    ∙ ap (λ b. spread c.args.self.now (window_from c.args.low X).start (window_from c.args.low X).back b c.args.width) (window_outside c.args.low X)
    ∙ part_is c.args.self.now c.args.low c.args.width c.seen_through.ensures.short c.requires.most)
    c.seen_through.ensures.bits
