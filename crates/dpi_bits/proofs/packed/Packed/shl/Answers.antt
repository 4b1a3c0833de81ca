use Rattle.std.proofs.Common.{min, cond, ap, ◌∙◌}
use Rattle.dpi_bits.specs.declared.bit.Bit.TheVariants.{Zero}
use Rattle.dpi_bits.specs.Lists.{all_x}
use Rattle.dpi_bits.specs.Numbers.{number}
use Rattle.dpi_bits.specs.Parts.{spread, shifted_left}
use Rattle.dpi_bits.proofs.Answered.{if_ok}
use Rattle.dpi_bits.proofs.Cut.{shifted_left_is}
use Rattle.dpi_bits.proofs.packed.Packed.shl.Goals as goal

pub returns-clause-bits : goal.returns-clause-bits
returns-clause-bits c =
    if_ok c.seen_through.result _ _
    (ap (λ n. spread c.args.self.now 0 n Zero c.width-2.result) c.shift_count.ensures
    ∙ ap (spread c.args.self.now 0 (min (number c.args.by.now) 1024) Zero) c.width-2.ensures.bits
    ∙ shifted_left_is c.args.self.now (number c.args.by.now) c.seen_through.ensures.short
    ∙ ap (λ k. cond k (shifted_left (number c.args.by.now) c.args.self.now) (all_x c.args.self.now)) c.if-not-known.ensures)
    c.seen_through.ensures.bits
