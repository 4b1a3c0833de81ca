use Rattle.std.proofs.Common.{length}
use Rattle.dpi_boundary.proofs.kinds.+same_open_sizes.Given as goal

abbrev pub decreases-same_open_sizes : goal.decreases-same_open_sizes
decreases-same_open_sizes l = length l.a.now
