use Rattle.dpirun.specs.Rules.{c_unlinked}
use Rattle.dpirun.proofs.rules.c_unlinked.Goals as goal

pub returns : goal.returns
unfolding c_unlinked
returns c = c.check_c.ensures
