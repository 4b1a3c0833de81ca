use Rattle.std.proofs.Common.{◌-◌, length, arith}
use Rattle.c_judge.proofs.Grouping.{last_at}
use Rattle.c_judge.proofs.assignments.last_value.Goals as goal

pub returns-in-len1-up : goal.returns-in-len1-up
returns-in-len1-up c = last_at c.args.first c.args.sides.now (length c.args.sides.now - 1) _ (omega (arith, c.in-len1-up.len_at_least))
