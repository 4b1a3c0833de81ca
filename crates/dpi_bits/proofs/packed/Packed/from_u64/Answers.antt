use Rattle.std.proofs.Common.{ap, ◌∙◌}
use Rattle.dpi_bits.specs.Words.{bits_of}
use Rattle.dpi_bits.specs.Parts.{spread}
use Rattle.dpi_bits.proofs.Answered.{if_ok}
use Rattle.dpi_bits.proofs.Written.{written, two_words}
use Rattle.dpi_bits.proofs.packed.Packed.from_u64.Goals as goal

pub returns-clause-bits : goal.returns-clause-bits
returns-clause-bits c =
    if_ok c.gather.result _ _
    (ap (λ w. spread (bits_of 64 (two_words c.args.value)) w.start w.back w.outside c.args.width) c.whole.ensures ∙ written c.args.value c.args.width c.ranges.value.fits)
    c.gather.ensures.bits
