use Rattle.std.proofs.Common.{◌≡◌, [], ◌+◌, ◌-◌, ◌*◌}
use Rattle.dpi_grammar.specs.Parser.{more, many_from}
use Rattle.dpi_grammar.proofs.Turns.{Turn}
use Rattle.sv_tree.specs.declared.class.Class.TheVariants as classes
use Rattle.sv_tree.specs.Classes.{is}
use Rattle.sv_stmt.specs.Front.{begins_statement, begins_item}
use Rattle.sv_stmt.specs.ReadingStatements.{sort, item, else_part, else_parts, statement}
use Rattle.sv_stmt.proofs.nested.+statement.Given as goal

abbrev pub decreases-block : goal.decreases-block
decreases-block l = 10 * l.depth + 1

abbrev pub decreases-if_statement : goal.decreases-if_statement
decreases-if_statement l = 10 * l.depth + 1

abbrev pub decreases-case : goal.decreases-case
decreases-case l = 10 * l.depth + 1

abbrev pub decreases-while_loop : goal.decreases-while_loop
decreases-while_loop l = 10 * l.depth + 1

abbrev pub decreases-repeat_loop : goal.decreases-repeat_loop
decreases-repeat_loop l = 10 * l.depth + 1

abbrev pub decreases-forever_loop : goal.decreases-forever_loop
decreases-forever_loop l = 10 * l.depth + 1

abbrev pub decreases-for_loop : goal.decreases-for_loop
decreases-for_loop l = 10 * l.depth + 1

abbrev pub decreases-loop_or_other : goal.decreases-loop_or_other
decreases-loop_or_other l = 10 * l.depth + 2

abbrev pub decreases-statement : goal.decreases-statement
decreases-statement l = 10 * l.depth + 3

abbrev pub decreases-boxed_statement : goal.decreases-boxed_statement
decreases-boxed_statement l = 10 * l.depth + 4

abbrev pub decreases-statements : goal.decreases-statements
decreases-statements l = 10 * l.depth + 4

abbrev pub decreases-for_tail : goal.decreases-for_tail
decreases-for_tail l = 10 * l.depth + 5

abbrev pub decreases-if_tail : goal.decreases-if_tail
decreases-if_tail l = 10 * l.depth + 8

abbrev pub decreases-if_end : goal.decreases-if_end
decreases-if_end l = 10 * l.depth + 7

abbrev pub decreases-else_if_tail : goal.decreases-else_if_tail
decreases-else_if_tail l = 10 * l.depth + 4

abbrev pub decreases-else_tail : goal.decreases-else_tail
decreases-else_tail l = 10 * l.depth + 4

abbrev pub decreases-else_part : goal.decreases-else_part
decreases-else_part l = 10 * l.depth + 5

abbrev pub decreases-else_parts : goal.decreases-else_parts
decreases-else_parts l = 10 * l.depth + 6

abbrev pub decreases-item : goal.decreases-item
decreases-item l = 10 * l.depth + 4

abbrev pub decreases-more_items : goal.decreases-more_items
decreases-more_items l = 10 * l.depth + 5

abbrev pub decreases-items : goal.decreases-items
decreases-items l = 10 * l.depth + 6

abbrev pub invariant-statements-loop-turn : goal.invariant-statements-loop-turn
invariant-statements-loop-turn l = more begins_statement (statement l.depth) [] l.fn.tokens ≡ many_from begins_statement (statement l.depth) (l._turn-end - l._turn) l.found l.tokens

abbrev pub invariant-more_items-loop-turn : goal.invariant-more_items-loop-turn
invariant-more_items-loop-turn l =
    more begins_item (item l.depth (statement l.depth)) l.fn.found l.fn.tokens ≡ many_from begins_item (item l.depth (statement l.depth)) (l._turn-end - l._turn) l.found l.tokens

abbrev pub invariant-else_parts-loop-turn : goal.invariant-else_parts-loop-turn
invariant-else_parts-loop-turn l = else_parts l.depth (statement l.depth) l.fn.tokens ≡ Turn (is classes.Else) (else_part l.depth (statement l.depth)) sort (l._turn-end - l._turn) l.others l.tokens
