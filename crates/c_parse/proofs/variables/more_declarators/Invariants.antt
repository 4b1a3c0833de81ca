use Rattle.std.proofs.Common.{◌≡◌, ◌-◌}
use Rattle.dpi_grammar.specs.Parser.{more, many_from}
use Rattle.c_tree.specs.declared.class.Class.TheVariants as classes
use Rattle.c_tree.specs.Classes.{is}
use Rattle.c_expr.specs.Reading.{expr}
use Rattle.c_parse.specs.ReadingDeclarations.{next_declarator_by}
use Rattle.c_parse.proofs.variables.more_declarators.Given as goal

abbrev pub invariant-loop-turn : goal.invariant-loop-turn
invariant-loop-turn l = more (is classes.Comma) (next_declarator_by (expr l.depth)) l.fn.found l.fn.tokens ≡ many_from (is classes.Comma) (next_declarator_by (expr l.depth)) (l._turn-end - l._turn) l.found l.tokens
