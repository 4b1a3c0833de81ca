use Rattle.dpirun.specs.Rules.{sv_unlinked}
use Rattle.dpirun.proofs.rules.sv_unlinked.Goals as goal

pub returns : goal.returns
unfolding sv_unlinked
returns c = c.check_sv.ensures
