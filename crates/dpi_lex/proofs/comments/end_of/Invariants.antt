use Rattle.std.proofs.Common.{◌≡◌, take, false}
use Rattle.dpi_lex.specs.Shapes.{holds_end}
use Rattle.dpi_lex.proofs.comments.end_of.Given as goal

abbrev pub invariant-loop-at : goal.invariant-loop-at
invariant-loop-at l = holds_end (take l.at l.inner) ≡ false
