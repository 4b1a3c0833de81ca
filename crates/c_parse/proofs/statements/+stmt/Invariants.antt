use Rattle.std.proofs.Common.{◌≡◌, [], ◌+◌, ◌-◌, ◌*◌}
use Rattle.dpi_grammar.specs.Parser.{more, many_from, branches}
use Rattle.dpi_grammar.proofs.Turns.{sorted, Turn}
use Rattle.c_tree.specs.declared.class.Class.TheVariants as classes
use Rattle.c_tree.specs.Classes.{is}
use Rattle.c_expr.specs.Reading.{expr}
use Rattle.c_parse.specs.Front.{begins_part}
use Rattle.c_parse.specs.ReadingStatements.{stmt, part_by, branch_by, branches_by, branch_sort}
use Rattle.c_parse.proofs.statements.+stmt.Given as goal

abbrev pub decreases-stmt : goal.decreases-stmt
decreases-stmt l = 20 * l.depth + 1

abbrev pub decreases-boxed_stmt : goal.decreases-boxed_stmt
decreases-boxed_stmt l = 20 * l.depth + 2

abbrev pub decreases-last_else : goal.decreases-last_else
decreases-last_else l = 20 * l.depth + 2

abbrev pub decreases-else_if : goal.decreases-else_if
decreases-else_if l = 20 * l.depth + 3

abbrev pub decreases-behind_else : goal.decreases-behind_else
decreases-behind_else l = 20 * l.depth + 4

abbrev pub decreases-branch : goal.decreases-branch
decreases-branch l = 20 * l.depth + 5

abbrev pub decreases-branches : goal.decreases-branches
decreases-branches l = 20 * l.depth + 6

abbrev pub decreases-if_stmt : goal.decreases-if_stmt
decreases-if_stmt l = 20 * l.depth + 7

abbrev pub decreases-while_stmt : goal.decreases-while_stmt
decreases-while_stmt l = 20 * l.depth + 8

abbrev pub decreases-do_stmt : goal.decreases-do_stmt
decreases-do_stmt l = 20 * l.depth + 9

abbrev pub decreases-for_body : goal.decreases-for_body
decreases-for_body l = 20 * l.depth + 10

abbrev pub decreases-for_step : goal.decreases-for_step
decreases-for_step l = 20 * l.depth + 11

abbrev pub decreases-for_test : goal.decreases-for_test
decreases-for_test l = 20 * l.depth + 12

abbrev pub decreases-for_stmt : goal.decreases-for_stmt
decreases-for_stmt l = 20 * l.depth + 13

abbrev pub decreases-part : goal.decreases-part
decreases-part l = 20 * l.depth + 14

abbrev pub decreases-parts : goal.decreases-parts
decreases-parts l = 20 * l.depth + 15

abbrev pub decreases-block : goal.decreases-block
decreases-block l = 20 * l.depth + 16

abbrev pub decreases-nested : goal.decreases-nested
decreases-nested l = 20 * l.depth + 17

abbrev pub invariant-parts-loop-turn : goal.invariant-parts-loop-turn
invariant-parts-loop-turn l = more begins_part (part_by (expr l.depth) (stmt l.depth)) [] l.fn.tokens ≡ many_from begins_part (part_by (expr l.depth) (stmt l.depth)) (l._turn-end - l._turn) l.found l.tokens

abbrev pub invariant-branches-loop-turn : goal.invariant-branches-loop-turn
invariant-branches-loop-turn l =
    branches_by (expr l.depth) (stmt l.depth) l.fn.tokens ≡ Turn (is classes.Else) (branch_by (expr l.depth) (stmt l.depth)) branch_sort (l._turn-end - l._turn) l.others l.tokens
