use Rattle.std.proofs.Common.{arith}
use Rattle.dpi_format.proofs.CStages.{one_long, two_long}
use Rattle.dpi_format.proofs.c_first.width_len.Goals as goal

pub returns-then-width-lt10-clause-len : goal.returns-then-width-lt10-clause-len
returns-then-width-lt10-clause-len c = one_long c.args.width c.in-Some.width c.in-Some.is (omega (arith, c.if-width-lt10.true))

pub returns-else-width-lt10-clause-len : goal.returns-else-width-lt10-clause-len
returns-else-width-lt10-clause-len c =
    two_long c.args.width c.in-Some.width c.in-Some.is c.requires (omega (arith, c.if-width-lt10.false))
