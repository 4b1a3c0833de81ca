use Rattle.std.proofs.Common.{◌≡◌, ◌≤◌, take}
use Rattle.dpi_lex.specs.Digits.{value_in}
use Rattle.dpi_lex.proofs.digits.is_at_most.Given as goal

abbrev pub invariant-loop-byte : goal.invariant-loop-byte
invariant-loop-byte l =
    (l.value ≡ value_in l.base (take l.byte-index l.bytes)) × (l.value ≤ l.limit)
