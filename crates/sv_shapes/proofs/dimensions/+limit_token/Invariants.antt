use Rattle.std.proofs.Common.{length}
use Rattle.sv_shapes.proofs.dimensions.+limit_token.Given as goal

abbrev pub decreases-limit_token : goal.decreases-limit_token
decreases-limit_token l = length l.dimensions.now
