use Rattle.std.proofs.Common.{length}
use Rattle.dpi_shape.proofs.dims.+all_alike.Given as goal

abbrev pub decreases-all_alike : goal.decreases-all_alike
decreases-all_alike l = length l.a.now
