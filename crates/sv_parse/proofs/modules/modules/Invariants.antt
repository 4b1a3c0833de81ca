use Rattle.std.proofs.Common.{◌≡◌, ◌-◌}
use Rattle.dpi_grammar.specs.Parser.{many_from}
use Rattle.sv_tree.specs.declared.class.Class.TheVariants as classes
use Rattle.sv_tree.specs.Classes.{is}
use Rattle.sv_parse.specs.Reading.{one_module, modules}
use Rattle.sv_parse.proofs.modules.modules.Given as goal

abbrev pub invariant-loop-turn : goal.invariant-loop-turn
invariant-loop-turn l = modules l.depth l.fn.tokens ≡ many_from (is classes.Module) (one_module l.depth) (l._turn-end - l._turn) l.found l.tokens
