use Rattle.std.proofs.Common.{drop}
use Rattle.dpi_rules.proofs.Noting.{IsNoted}
use Rattle.sv_instances.specs.Modules.{told}
use Rattle.sv_check.specs.Modules.{module_violations}
use Rattle.sv_check.proofs.modules.note_modules.Given as goal

abbrev pub invariant-loop-placed : goal.invariant-loop-placed
invariant-loop-placed l = IsNoted (λ p. module_violations (told p)) l.initial.found l.modules (drop l.placed-index l.modules) l.found
