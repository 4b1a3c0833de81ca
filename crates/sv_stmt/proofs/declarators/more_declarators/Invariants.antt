use Rattle.std.proofs.Common.{◌≡◌, ◌-◌}
use Rattle.dpi_grammar.specs.Parser.{more, many_from}
use Rattle.sv_tree.specs.declared.class.Class.TheVariants as classes
use Rattle.sv_tree.specs.Classes.{is}
use Rattle.sv_stmt.specs.ReadingVariables.{next_declarator}
use Rattle.sv_stmt.proofs.declarators.more_declarators.Given as goal

abbrev pub invariant-loop-turn : goal.invariant-loop-turn
invariant-loop-turn l = more (is classes.Comma) (next_declarator l.depth) l.fn.found l.fn.tokens ≡ many_from (is classes.Comma) (next_declarator l.depth) (l._turn-end - l._turn) l.found l.tokens
