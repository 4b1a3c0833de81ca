use Rattle.std.proofs.Common.{◌≡◌, drop}
use Rattle.sv_contexts.specs.Formats.{are_shown}
use Rattle.sv_contexts.proofs.formats.are_shown.Given as goal

-- the arguments left over decide
abbrev pub invariant-loop-place : goal.invariant-loop-place
invariant-loop-place l = are_shown l.args l.conversions ≡ are_shown (drop l.place l.args) (drop l.place l.conversions)
