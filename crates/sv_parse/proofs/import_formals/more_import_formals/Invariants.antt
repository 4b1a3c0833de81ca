use Rattle.std.proofs.Common.{◌≡◌, ◌-◌}
use Rattle.dpi_grammar.specs.Parser.{many_from}
use Rattle.sv_tree.specs.declared.class.Class.TheVariants as classes
use Rattle.sv_tree.specs.Classes.{is}
use Rattle.sv_parse.specs.Headers.{next_import_formal, more_import_formals}
use Rattle.sv_parse.proofs.import_formals.more_import_formals.Given as goal

abbrev pub invariant-loop-turn : goal.invariant-loop-turn
invariant-loop-turn l = more_import_formals l.fn.found l.fn.tokens ≡ many_from (is classes.Comma) next_import_formal (l._turn-end - l._turn) l.found l.tokens
