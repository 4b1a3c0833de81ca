use Rattle.std.proofs.Common.{drop}
use Rattle.dpi_rules.proofs.Noting.{IsNoted}
use Rattle.sv_forms.specs.Calls.{in_expr, in_term, in_select}
use Rattle.sv_forms.proofs.calls.+calls.Given as goal

-- what is noted so far, and what the ones left over break
abbrev pub invariant-note_exprs-loop-expr : goal.invariant-note_exprs-loop-expr
invariant-note_exprs-loop-expr l = IsNoted (in_expr l.file) l.initial.found l.exprs (drop l.expr-index l.exprs) l.found

abbrev pub invariant-note_selects-loop-select : goal.invariant-note_selects-loop-select
invariant-note_selects-loop-select l = IsNoted (in_select l.file) l.initial.found l.selects (drop l.select-index l.selects) l.found

abbrev pub invariant-note_terms-loop-term : goal.invariant-note_terms-loop-term
invariant-note_terms-loop-term l = IsNoted (in_term l.file) l.initial.found l.terms (drop l.term-index l.terms) l.found
