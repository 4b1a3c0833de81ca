use Rattle.std.proofs.Common.{length}
use Rattle.sv_names.proofs.scopes.+find_called_in.Given as goal

abbrev pub decreases-find_called_in : goal.decreases-find_called_in
decreases-find_called_in l = length l.stack.now
