use Rattle.std.proofs.Common.{◌≡◌, [], ◌-◌}
use Rattle.dpi_grammar.specs.Parser.{more, many_from}
use Rattle.sv_expr.specs.Front.{begins_prefix}
use Rattle.sv_expr.specs.Reading.{prefix}
use Rattle.sv_expr.proofs.parts.prefixes.Given as goal

abbrev pub invariant-loop-turn : goal.invariant-loop-turn
invariant-loop-turn l = more begins_prefix prefix [] l.fn.tokens ≡ many_from begins_prefix prefix (l._turn-end - l._turn) l.found l.tokens
