use Rattle.std.proofs.Common.{drop}
use Rattle.dpi_rules.proofs.Noting.{IsNoted}
use Rattle.c_forms.specs.Statements.{part_at, else_if_at}
use Rattle.c_forms.proofs.statements.+statements.Given as goal

-- what is noted so far, and what the ones left over break
abbrev pub invariant-note_parts-loop-part : goal.invariant-note_parts-loop-part
invariant-note_parts-loop-part l = IsNoted (part_at l.file l.around) l.initial.found l.parts (drop l.part-index l.parts) l.found

-- what is noted so far, and what the ones left over break
abbrev pub invariant-note_others-loop-other : goal.invariant-note_others-loop-other
invariant-note_others-loop-other l = IsNoted (else_if_at l.file l.around) l.initial.found l.others (drop l.other-index l.others) l.found
