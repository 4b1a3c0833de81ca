use Rattle.std.proofs.Common.{drop}
use Rattle.dpi_rules.proofs.Noting.{IsNoted}
use Rattle.sv_instances.specs.Modules.{told, numbers_of}
use Rattle.sv_instances.specs.Instances.{module_unknown}
use Rattle.sv_instances.proofs.instances.note_unknown.Given as goal

abbrev pub invariant-loop-placed : goal.invariant-loop-placed
invariant-loop-placed l =
    IsNoted (λ p. module_unknown (numbers_of l.numbers.numbers) (told p)) l.initial.found l.modules (drop l.placed-index l.modules) l.found
