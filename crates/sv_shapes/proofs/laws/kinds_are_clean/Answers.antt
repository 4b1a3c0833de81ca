use Rattle.sv_shapes.proofs.Clean.{kinds_are_clean}
use Rattle.sv_shapes.proofs.laws.kinds_are_clean.Goals as goal

pub returns : goal.returns
returns c = kinds_are_clean
