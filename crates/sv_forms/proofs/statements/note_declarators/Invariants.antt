use Rattle.std.proofs.Common.{drop}
use Rattle.dpi_rules.proofs.Noting.{IsNoted}
use Rattle.sv_forms.specs.Statements.{declarator_violations}
use Rattle.sv_forms.proofs.statements.note_declarators.Given as goal

-- what is noted so far, and what the ones left over break
abbrev pub invariant-loop-declarator : goal.invariant-loop-declarator
invariant-loop-declarator l = IsNoted (declarator_violations l.file l.around) l.initial.found l.declarators (drop l.declarator-index l.declarators) l.found
