use Rattle.std.proofs.Common.{◌≡◌, [], ◌-◌}
use Rattle.dpi_grammar.specs.Parser.{more, many_from}
use Rattle.sv_types.specs.Reading.{begins_data_type}
use Rattle.sv_stmt.specs.ReadingVariables.{variables}
use Rattle.sv_stmt.proofs.declarators.declarations.Given as goal

abbrev pub invariant-loop-turn : goal.invariant-loop-turn
invariant-loop-turn l = more begins_data_type (variables l.depth) [] l.fn.tokens ≡ many_from begins_data_type (variables l.depth) (l._turn-end - l._turn) l.found l.tokens
