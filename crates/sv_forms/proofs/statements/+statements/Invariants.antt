use Rattle.std.proofs.Common.{drop}
use Rattle.dpi_rules.proofs.Noting.{IsNoted}
use Rattle.sv_forms.specs.Statements.{in_stmt, in_item, in_else_if}
use Rattle.sv_forms.proofs.statements.+statements.Given as goal

-- what is noted so far, and what the ones left over break
abbrev pub invariant-note_stmts-loop-stmt : goal.invariant-note_stmts-loop-stmt
invariant-note_stmts-loop-stmt l = IsNoted (λ x. in_stmt l.file x l.around) l.initial.found l.stmts (drop l.stmt-index l.stmts) l.found

-- what is noted so far, and what the ones left over break
abbrev pub invariant-note_items-loop-item : goal.invariant-note_items-loop-item
invariant-note_items-loop-item l = IsNoted (λ x. in_item l.file x l.around) l.initial.found l.items (drop l.item-index l.items) l.found

-- what is noted so far, and what the ones left over break
abbrev pub invariant-note_others-loop-other : goal.invariant-note_others-loop-other
invariant-note_others-loop-other l = IsNoted (λ x. in_else_if l.file x l.around) l.initial.found l.others (drop l.other-index l.others) l.found
