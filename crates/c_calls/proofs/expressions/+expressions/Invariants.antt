use Rattle.std.proofs.Common.{drop}
use Rattle.dpi_rules.proofs.Noting.{IsNoted}
use Rattle.c_calls.specs.Refusals.{rules_of}
use Rattle.c_calls.specs.Expressions.{in_assignment, in_term, in_suffix, in_expr}
use Rattle.c_calls.proofs.expressions.+expressions.Given as goal

-- in each loop: what is noted so far, and what the parts left over break
abbrev pub invariant-note_assignments-loop-assignment : goal.invariant-note_assignments-loop-assignment
invariant-note_assignments-loop-assignment l = IsNoted (in_assignment l.file (rules_of l.refusals)) l.initial.found l.rest (drop l.assignment-index l.rest) l.found

abbrev pub invariant-note_terms-loop-term : goal.invariant-note_terms-loop-term
invariant-note_terms-loop-term l = IsNoted (in_term l.file (rules_of l.refusals)) l.initial.found l.terms (drop l.term-index l.terms) l.found

abbrev pub invariant-note_suffixes-loop-suffix : goal.invariant-note_suffixes-loop-suffix
invariant-note_suffixes-loop-suffix l = IsNoted (in_suffix l.file (rules_of l.refusals)) l.initial.found l.suffixes (drop l.suffix-index l.suffixes) l.found

abbrev pub invariant-note_exprs-loop-expr : goal.invariant-note_exprs-loop-expr
invariant-note_exprs-loop-expr l = IsNoted (in_expr l.file (rules_of l.refusals)) l.initial.found l.exprs (drop l.expr-index l.exprs) l.found
