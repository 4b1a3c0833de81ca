use Rattle.std.proofs.Common.{◌≡◌, [], ◌+◌, ◌-◌, ◌*◌}
use Rattle.dpi_grammar.specs.Parser.{more, many_from, level}
use Rattle.sv_tree.specs.declared.class.Class.TheVariants as classes
use Rattle.sv_tree.specs.Classes.{is}
use Rattle.sv_expr.specs.Front.{begins_term}
use Rattle.sv_expr.specs.Reading.{term, inside, next_expr, expr, select_by}
use Rattle.sv_expr.proofs.expressions.+expr.Given as goal

abbrev pub decreases-select : goal.decreases-select
decreases-select l = 20 * l.depth + 1

abbrev pub decreases-wrapped : goal.decreases-wrapped
decreases-wrapped l = 20 * l.depth + 1

abbrev pub decreases-braces : goal.decreases-braces
decreases-braces l = 20 * l.depth + 1

abbrev pub decreases-selects : goal.decreases-selects
decreases-selects l = 20 * l.depth + 2

abbrev pub decreases-behind_name : goal.decreases-behind_name
decreases-behind_name l = 20 * l.depth + 3

abbrev pub decreases-named : goal.decreases-named
decreases-named l = 20 * l.depth + 4

abbrev pub decreases-primary : goal.decreases-primary
decreases-primary l = 20 * l.depth + 5

abbrev pub decreases-operand : goal.decreases-operand
decreases-operand l = 20 * l.depth + 6

abbrev pub decreases-term : goal.decreases-term
decreases-term l = 20 * l.depth + 7

abbrev pub decreases-terms : goal.decreases-terms
decreases-terms l = 20 * l.depth + 8

abbrev pub decreases-chain : goal.decreases-chain
decreases-chain l = 20 * l.depth + 9

abbrev pub decreases-choice : goal.decreases-choice
decreases-choice l = 20 * l.depth + 9

abbrev pub decreases-expr : goal.decreases-expr
decreases-expr l = 20 * l.depth + 10

abbrev pub decreases-next_expr : goal.decreases-next_expr
decreases-next_expr l = 20 * l.depth + 11

abbrev pub decreases-more_exprs : goal.decreases-more_exprs
decreases-more_exprs l = 20 * l.depth + 12

abbrev pub decreases-exprs : goal.decreases-exprs
decreases-exprs l = 20 * l.depth + 13

abbrev pub decreases-listed : goal.decreases-listed
decreases-listed l = 20 * l.depth + 14

abbrev pub decreases-actuals_inside : goal.decreases-actuals_inside
decreases-actuals_inside l = 20 * l.depth + 15

abbrev pub decreases-branches : goal.decreases-branches
decreases-branches l = 20 * l.depth + 15

abbrev pub decreases-repetition : goal.decreases-repetition
decreases-repetition l = 20 * l.depth + 14

abbrev pub decreases-braces_tail : goal.decreases-braces_tail
decreases-braces_tail l = 20 * l.depth + 15

abbrev pub invariant-terms-loop-turn : goal.invariant-terms-loop-turn
invariant-terms-loop-turn l = more begins_term (term (inside l.depth)) [] l.fn.tokens ≡ many_from begins_term (term (inside l.depth)) (l._turn-end - l._turn) l.found l.tokens

abbrev pub invariant-more_exprs-loop-turn : goal.invariant-more_exprs-loop-turn
invariant-more_exprs-loop-turn l = more (is classes.Comma) (next_expr (expr l.depth)) l.fn.found l.fn.tokens ≡ many_from (is classes.Comma) (next_expr (expr l.depth)) (l._turn-end - l._turn) l.found l.tokens

abbrev pub invariant-selects-loop-turn : goal.invariant-selects-loop-turn
invariant-selects-loop-turn l = more (is classes.OpenBracket) (level (inside l.depth) select_by) [] l.fn.tokens ≡ many_from (is classes.OpenBracket) (level (inside l.depth) select_by) (l._turn-end - l._turn) l.found l.tokens

abbrev pub decreases-concatenation : goal.decreases-concatenation
decreases-concatenation l = 20 * l.depth + 14
