use Rattle.std.proofs.Common.{arith}
use Rattle.dpi_lex.proofs.Spans.{AreSpans-length}
use Rattle.dpi_lex.proofs.tokens.Tokens.len.Goals as goal

pub overflow_cast-result : goal.overflow_cast-result
overflow_cast-result c =
    omega (arith, AreSpans-length 0 _ c.self.inside.tokens.items c.self.invariant.1)

pub returns-clause-bound : goal.returns-clause-bound
returns-clause-bound c =
    omega (arith, AreSpans-length 0 _ c.self.inside.tokens.items c.self.invariant.1)
