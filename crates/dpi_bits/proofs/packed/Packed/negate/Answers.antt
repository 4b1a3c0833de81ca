use Rattle.dpi_bits.proofs.Answered.{if_ok}
use Rattle.dpi_bits.proofs.Arith.{negated_is}
use Rattle.dpi_bits.proofs.packed.Packed.negate.Goals as goal

pub returns-in-Some-clause-bits : goal.returns-in-Some-clause-bits
returns-in-Some-clause-bits c =
    if_ok c.from_u64.result _ _
    (negated_is c.args.self.now c.width.result c.in-Some.numbers.0 c.width.ensures.bits c.requires c.in-Some.ensures.0 c.in-Some.ensures.1)
    c.from_u64.ensures.bits
