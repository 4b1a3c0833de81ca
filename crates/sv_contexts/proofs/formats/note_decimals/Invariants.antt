use Rattle.std.proofs.Common.{◌≡◌, drop}
use Rattle.dpi_rules.specs.Least.{noted}
use Rattle.sv_contexts.specs.Formats.{decimals_violations}
use Rattle.sv_contexts.proofs.formats.note_decimals.Given as goal

-- what is noted so far, and what the arguments left over come to
abbrev pub invariant-loop-place : goal.invariant-loop-place
invariant-loop-place l =
    noted l.initial.found (decimals_violations l.file l.args l.conversions)
    ≡ noted l.found (decimals_violations l.file (drop l.place l.args) (drop l.place l.conversions))
