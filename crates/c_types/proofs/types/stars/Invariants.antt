use Rattle.std.proofs.Common.{◌≡◌, [], ◌-◌}
use Rattle.dpi_grammar.specs.Parser.{more, many_from}
use Rattle.c_tree.specs.declared.class.Class.TheVariants as classes
use Rattle.c_tree.specs.Classes.{is}
use Rattle.c_types.specs.Reading as spec
use Rattle.c_types.proofs.types.stars.Given as goal

abbrev pub invariant-loop-turn : goal.invariant-loop-turn
invariant-loop-turn l = more (is classes.Star) spec.star [] l.fn.tokens ≡ many_from (is classes.Star) spec.star (l._turn-end - l._turn) l.found l.tokens
