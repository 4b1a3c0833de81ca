use Rattle.std.proofs.Common.{length}
use Rattle.c_names.proofs.scopes.+here_behind.Given as goal

abbrev pub decreases-here_behind : goal.decreases-here_behind
decreases-here_behind l = length l.inner.now
