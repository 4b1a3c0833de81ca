use Rattle.std.proofs.Common.{◌≡◌, ◌++◌, drop}
use Rattle.sv_inside.specs.Seen.{kinds_of}
use Rattle.sv_inside.proofs.signatures.kinds_of.Given as goal

-- what is listed, and the formals left over
abbrev pub invariant-loop-formal : goal.invariant-loop-formal
invariant-loop-formal l = l.kinds.items ++ kinds_of (drop l.formal-index l.formals) ≡ kinds_of l.formals
