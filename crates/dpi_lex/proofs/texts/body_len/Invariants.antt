use Rattle.std.proofs.Common.{length, ◌-◌, ◌≡◌, ◌≤◌, take, true, false}
use Rattle.dpi_lex.specs.Bytes.{is_escape}
use Rattle.dpi_lex.specs.Shapes.{is_body}
use Rattle.dpi_lex.proofs.texts.body_len.Given as goal

abbrev pub invariant-loop-at : goal.invariant-loop-at
invariant-loop-at l =
    (l.at ≤ length l.inner) × (is_body (is_escape l.language) false (take l.at l.inner) ≡ true)

abbrev pub decreases-loop-at : goal.decreases-loop-at
decreases-loop-at l = length l.inner - l.at
