use Rattle.std.proofs.Common.{length}
use Rattle.dpi_boundary.proofs.functions.+fit_import_formals.Given as goal

abbrev pub decreases-fit_import_formals : goal.decreases-fit_import_formals
decreases-fit_import_formals l = length l.formals.now
