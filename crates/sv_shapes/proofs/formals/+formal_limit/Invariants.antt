use Rattle.std.proofs.Common.{length}
use Rattle.sv_shapes.proofs.formals.+formal_limit.Given as goal

abbrev pub decreases-formal_limit : goal.decreases-formal_limit
decreases-formal_limit l = length l.dimensions.now
