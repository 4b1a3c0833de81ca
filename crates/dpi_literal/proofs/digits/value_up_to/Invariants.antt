use Rattle.std.proofs.Common.{◌≡◌, ◌≤◌, take}
use Rattle.dpi_lex.specs.Digits.{value_in}
use Rattle.dpi_literal.proofs.digits.value_up_to.Given as goal

-- the value so far is that of the bytes so far, and within the limit
abbrev pub invariant-loop-byte : goal.invariant-loop-byte
invariant-loop-byte l =
    (l.value ≡ value_in l.base (take l.byte-index l.bytes)) × (l.value ≤ l.limit)
