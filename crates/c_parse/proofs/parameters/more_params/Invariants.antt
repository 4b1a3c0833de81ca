use Rattle.std.proofs.Common.{◌≡◌, ◌-◌}
use Rattle.dpi_grammar.specs.Parser.{more, many_from}
use Rattle.c_tree.specs.declared.class.Class.TheVariants as classes
use Rattle.c_tree.specs.Classes.{is}
use Rattle.c_parse.specs.ReadingDeclarations.{next_param}
use Rattle.c_parse.proofs.parameters.more_params.Given as goal

abbrev pub invariant-loop-turn : goal.invariant-loop-turn
invariant-loop-turn l = more (is classes.Comma) next_param l.fn.found l.fn.tokens ≡ many_from (is classes.Comma) next_param (l._turn-end - l._turn) l.found l.tokens
