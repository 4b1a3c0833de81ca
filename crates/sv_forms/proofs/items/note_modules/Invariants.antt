use Rattle.std.proofs.Common.{drop}
use Rattle.dpi_rules.proofs.Noting.{IsNoted}
use Rattle.sv_forms.specs.Items.{module_violations}
use Rattle.sv_forms.proofs.items.note_modules.Given as goal

-- what is noted so far, and what the ones left over break
abbrev pub invariant-loop-unit : goal.invariant-loop-unit
invariant-loop-unit l = IsNoted (module_violations l.file) l.initial.found l.modules (drop l.unit-index l.modules) l.found
