use Rattle.sv_instances.proofs.Levels.{enough}
use Rattle.sv_instances.proofs.laws.levels_suffice.Goals as goal

pub returns : goal.returns
returns c = enough
