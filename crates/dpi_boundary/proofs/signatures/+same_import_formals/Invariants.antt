use Rattle.std.proofs.Common.{length}
use Rattle.dpi_boundary.proofs.signatures.+same_import_formals.Given as goal

abbrev pub decreases-same_import_formals : goal.decreases-same_import_formals
decreases-same_import_formals l = length l.a.now
