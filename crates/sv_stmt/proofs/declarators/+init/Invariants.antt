use Rattle.std.proofs.Common.{◌≡◌, ◌+◌, ◌-◌, ◌*◌}
use Rattle.dpi_grammar.specs.Parser.{more, many_from}
use Rattle.sv_tree.specs.declared.class.Class.TheVariants as classes
use Rattle.sv_tree.specs.Classes.{is}
use Rattle.sv_stmt.specs.ReadingVariables.{next_init, init}
use Rattle.sv_stmt.proofs.declarators.+init.Given as goal

abbrev pub decreases-pattern : goal.decreases-pattern
decreases-pattern l = 10 * l.depth + 1

abbrev pub decreases-init : goal.decreases-init
decreases-init l = 10 * l.depth + 2

abbrev pub decreases-next_init : goal.decreases-next_init
decreases-next_init l = 10 * l.depth + 3

abbrev pub decreases-more_inits : goal.decreases-more_inits
decreases-more_inits l = 10 * l.depth + 4

abbrev pub decreases-inits : goal.decreases-inits
decreases-inits l = 10 * l.depth + 5

abbrev pub invariant-more_inits-loop-turn : goal.invariant-more_inits-loop-turn
invariant-more_inits-loop-turn l = more (is classes.Comma) (next_init (init l.depth)) l.fn.found l.fn.tokens ≡ many_from (is classes.Comma) (next_init (init l.depth)) (l._turn-end - l._turn) l.found l.tokens
