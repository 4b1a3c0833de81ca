use Rattle.std.proofs.Common.{◌≡◌, [], ◌+◌, ◌-◌, ◌*◌}
use Rattle.dpi_grammar.specs.Parser.{more, many_from}
use Rattle.dpi_grammar.proofs.Leading.{Turn}
use Rattle.c_tree.specs.declared.class.Class.TheVariants as classes
use Rattle.c_tree.specs.Classes.{is}
use Rattle.c_expr.specs.Front.{begins_lead, begins_term, begins_assignment, begins_suffix}
use Rattle.c_expr.specs.Reading as spec
use Rattle.c_expr.specs.Reading.{term, assignment, inside, readers, next_expr, suffix, lead, sort, plain}
use Rattle.c_expr.proofs.expressions.+expr.Given as goal

abbrev pub decreases-index : goal.decreases-index
decreases-index l = 20 * l.depth + 1

abbrev pub decreases-suffix : goal.decreases-suffix
decreases-suffix l = 20 * l.depth + 2

abbrev pub decreases-suffixes : goal.decreases-suffixes
decreases-suffixes l = 20 * l.depth + 3

abbrev pub decreases-named : goal.decreases-named
decreases-named l = 20 * l.depth + 1

abbrev pub decreases-plain : goal.decreases-plain
decreases-plain l = 20 * l.depth + 2

abbrev pub decreases-bracket : goal.decreases-bracket
decreases-bracket l = 20 * l.depth + 1

abbrev pub decreases-lead : goal.decreases-lead
decreases-lead l = 20 * l.depth + 2

abbrev pub decreases-led : goal.decreases-led
decreases-led l = 20 * l.depth + 3

abbrev pub decreases-operand : goal.decreases-operand
decreases-operand l = 20 * l.depth + 4

abbrev pub decreases-term : goal.decreases-term
decreases-term l = 20 * l.depth + 5

abbrev pub decreases-terms : goal.decreases-terms
decreases-terms l = 20 * l.depth + 6

abbrev pub decreases-chain : goal.decreases-chain
decreases-chain l = 20 * l.depth + 7

abbrev pub decreases-choice : goal.decreases-choice
decreases-choice l = 20 * l.depth + 7

abbrev pub decreases-cond : goal.decreases-cond
decreases-cond l = 20 * l.depth + 8

abbrev pub decreases-assignment : goal.decreases-assignment
decreases-assignment l = 20 * l.depth + 9

abbrev pub decreases-assignments : goal.decreases-assignments
decreases-assignments l = 20 * l.depth + 10

abbrev pub decreases-expr : goal.decreases-expr
decreases-expr l = 20 * l.depth + 11

abbrev pub decreases-next_expr : goal.decreases-next_expr
decreases-next_expr l = 20 * l.depth + 12

abbrev pub decreases-exprs : goal.decreases-exprs
decreases-exprs l = 20 * l.depth + 13

abbrev pub decreases-listed : goal.decreases-listed
decreases-listed l = 20 * l.depth + 14

abbrev pub decreases-arguments : goal.decreases-arguments
decreases-arguments l = 20 * l.depth + 15

abbrev pub decreases-branches : goal.decreases-branches
decreases-branches l = 20 * l.depth + 15

abbrev pub decreases-group : goal.decreases-group
decreases-group l = 20 * l.depth + 15

abbrev pub invariant-assignments-loop-turn : goal.invariant-assignments-loop-turn
invariant-assignments-loop-turn l = more begins_assignment (assignment (inside l.depth)) [] l.fn.tokens ≡ many_from begins_assignment (assignment (inside l.depth)) (l._turn-end - l._turn) l.found l.tokens

abbrev pub invariant-terms-loop-turn : goal.invariant-terms-loop-turn
invariant-terms-loop-turn l = more begins_term (term (inside l.depth)) [] l.fn.tokens ≡ many_from begins_term (term (inside l.depth)) (l._turn-end - l._turn) l.found l.tokens

abbrev pub invariant-suffixes-loop-turn : goal.invariant-suffixes-loop-turn
invariant-suffixes-loop-turn l = more begins_suffix (suffix (inside l.depth)) [] l.fn.tokens ≡ many_from begins_suffix (suffix (inside l.depth)) (l._turn-end - l._turn) l.found l.tokens

abbrev pub invariant-exprs-loop-turn : goal.invariant-exprs-loop-turn
invariant-exprs-loop-turn l = spec.exprs l.depth l.fn.tokens ≡ many_from (is classes.Comma) (next_expr (readers l.depth)) (l._turn-end - l._turn) l.found l.tokens

abbrev pub invariant-led-loop-turn : goal.invariant-led-loop-turn
invariant-led-loop-turn l = spec.led (inside l.depth) l.fn.tokens ≡ Turn begins_lead (lead (inside l.depth)) sort (plain (inside l.depth)) (l._turn-end - l._turn) l.found l.tokens
