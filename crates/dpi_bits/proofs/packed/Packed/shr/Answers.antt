use Rattle.std.proofs.Common.{min, cond, ap, ◌∙◌}
use Rattle.dpi_bits.specs.Lists.{all_x}
use Rattle.dpi_bits.specs.Numbers.{number}
use Rattle.dpi_bits.specs.Parts.{spread, shifted_right, extension}
use Rattle.dpi_bits.proofs.Answered.{if_ok}
use Rattle.dpi_bits.proofs.Cut.{shifted_right_is}
use Rattle.dpi_bits.proofs.packed.Packed.shr.Goals as goal

pub returns-clause-bits : goal.returns-clause-bits
returns-clause-bits c =
    if_ok c.seen_through.result _ _
    (ap (λ n. spread c.args.self.now n 0 c.extension.result c.width-2.result) c.shift_count.ensures
    ∙ ap (λ b. spread c.args.self.now (min (number c.args.by.now) 1024) 0 b c.width-2.result) c.extension.ensures
    ∙ ap (spread c.args.self.now (min (number c.args.by.now) 1024) 0 (extension c.args.arithmetic c.args.self.now)) c.width-2.ensures.bits
    ∙ shifted_right_is c.args.self.now (number c.args.by.now) (extension c.args.arithmetic c.args.self.now) c.seen_through.ensures.short
    ∙ ap (λ k. cond k (shifted_right (number c.args.by.now) (extension c.args.arithmetic c.args.self.now) c.args.self.now) (all_x c.args.self.now)) c.if-not-known.ensures)
    c.seen_through.ensures.bits
