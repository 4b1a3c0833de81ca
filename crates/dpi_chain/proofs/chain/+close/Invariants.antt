use Rattle.std.proofs.Common.{length}
use Rattle.dpi_chain.proofs.chain.+close.Given as goal

abbrev pub decreases-close : goal.decreases-close
decreases-close g l = length l.pending.now.items
