use Rattle.std.proofs.Common.{◌≡◌, max, drop}
use Rattle.sv_contexts.specs.Cases.{widest}
use Rattle.sv_contexts.proofs.cases.widest.Given as goal

-- the widest so far, and that of the values left over
abbrev pub invariant-loop-value : goal.invariant-loop-value
invariant-loop-value l = max l.width (widest (drop l.value-index l.values)) ≡ widest l.values
