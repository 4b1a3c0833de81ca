use Rattle.std.proofs.Common.{◌≡◌, false, ◌++◌, drop}
use Rattle.dpi_literal.specs.Texts.{inside, replaced}
use Rattle.dpi_literal.proofs.texts.text_of.Given as goal

-- what has been read, and what the rest stands for
abbrev pub invariant-loop-byte : goal.invariant-loop-byte
invariant-loop-byte l =
    l.text.items ++ replaced l.behind (drop l.byte-index l.byte-items) ≡ replaced false (inside l.bytes)
