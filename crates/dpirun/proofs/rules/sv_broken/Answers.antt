use Rattle.dpirun.specs.Rules.{sv_broken}
use Rattle.dpirun.proofs.rules.sv_broken.Goals as goal

pub returns : goal.returns
unfolding sv_broken
returns c = c.check.ensures
