use Rattle.std.proofs.Common.{drop}
use Rattle.dpi_rules.proofs.Noting.{IsNoted}
use Rattle.c_calls.specs.Refusals.{rules_of}
use Rattle.c_calls.specs.Statements.{in_part, in_else_if}
use Rattle.c_calls.proofs.statements.+statements.Given as goal

-- in each loop: what is noted so far, and what the parts left over break
abbrev pub invariant-note_parts-loop-part : goal.invariant-note_parts-loop-part
invariant-note_parts-loop-part l = IsNoted (in_part l.file (rules_of l.refusals)) l.initial.found l.parts (drop l.part-index l.parts) l.found

abbrev pub invariant-note_others-loop-other : goal.invariant-note_others-loop-other
invariant-note_others-loop-other l = IsNoted (in_else_if l.file (rules_of l.refusals)) l.initial.found l.others (drop l.other-index l.others) l.found
