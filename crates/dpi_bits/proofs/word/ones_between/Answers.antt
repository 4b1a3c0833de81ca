use Rattle.std.proofs.Common.{arith}
use Rattle.std.proofs.lemmas.Nat.{one_shl}
use Rattle.std.proofs.lemmas.Nat.Bits.{bit_at_mask_below, bit_at_mask_inside, bit_at_mask_above}
use Rattle.std.proofs.Math.Pow.{pow_mono}
use Rattle.dpi_bits.proofs.word.ones_between.Goals as goal

pub overflow_sub-result : goal.overflow_sub-result
overflow_sub-result c =
    rw (one_shl c.args.low 64 (omega arith), one_shl c.args.high 64 (omega arith)) (pow_mono c.requires.order)

pub returns-clause-below : goal.returns-clause-below
returns-clause-below c i =
    rw (one_shl c.args.low 64 (omega arith), one_shl c.args.high 64 (omega arith)) (bit_at_mask_below c.args.low c.args.high i)

pub returns-clause-inside : goal.returns-clause-inside
returns-clause-inside c i =
    rw (one_shl c.args.low 64 (omega arith), one_shl c.args.high 64 (omega arith)) (bit_at_mask_inside c.args.low c.args.high i)

pub returns-clause-above : goal.returns-clause-above
returns-clause-above c i =
    rw (one_shl c.args.low 64 (omega arith), one_shl c.args.high 64 (omega arith)) (bit_at_mask_above c.args.low c.args.high i)
