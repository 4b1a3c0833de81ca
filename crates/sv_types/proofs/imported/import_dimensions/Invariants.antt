use Rattle.std.proofs.Common.{◌≡◌, ◌-◌}
use Rattle.dpi_grammar.specs.Parser.{many_from}
use Rattle.sv_types.specs.Reading as spec
use Rattle.sv_types.specs.Reading.{begins_dimension, import_dimension}
use Rattle.sv_types.proofs.imported.import_dimensions.Given as goal

abbrev pub invariant-loop-turn : goal.invariant-loop-turn
invariant-loop-turn l = spec.import_dimensions l.fn.tokens ≡ many_from begins_dimension import_dimension (l._turn-end - l._turn) l.found l.tokens
