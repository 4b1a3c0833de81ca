use Rattle.std.proofs.Common.{◌≡◌, ◌++◌, drop}
use Rattle.std.specs.Prelude.{flat_map}
use Rattle.sv_design.specs.Imports.{formal}
use Rattle.sv_design.proofs.imports.kept_formals.Given as goal

-- what is listed, and the formals left over
abbrev pub invariant-loop-formal : goal.invariant-loop-formal
invariant-loop-formal l = l.list ++ flat_map formal (drop l.formal-index l.formals) ≡ flat_map formal l.formals
