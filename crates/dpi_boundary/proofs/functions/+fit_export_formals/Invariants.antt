use Rattle.std.proofs.Common.{length}
use Rattle.dpi_boundary.proofs.functions.+fit_export_formals.Given as goal

abbrev pub decreases-fit_export_formals : goal.decreases-fit_export_formals
decreases-fit_export_formals l = length l.formals.now
