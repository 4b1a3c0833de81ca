use Rattle.std.proofs.Common.{drop}
use Rattle.dpi_rules.proofs.Noting.{IsNoted}
use Rattle.sv_forms.specs.Statements.{locals_violations}
use Rattle.sv_forms.proofs.statements.note_locals.Given as goal

-- what is noted so far, and what the ones left over break
abbrev pub invariant-loop-each : goal.invariant-loop-each
invariant-loop-each l = IsNoted (locals_violations l.file l.around) l.initial.found l.variables (drop l.each-index l.variables) l.found
