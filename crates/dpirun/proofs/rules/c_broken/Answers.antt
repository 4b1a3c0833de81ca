use Rattle.dpirun.specs.Rules.{c_broken}
use Rattle.dpirun.proofs.rules.c_broken.Goals as goal

pub returns : goal.returns
unfolding c_broken
returns c = c.check.ensures
