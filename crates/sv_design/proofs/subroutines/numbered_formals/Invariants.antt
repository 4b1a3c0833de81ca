use Rattle.std.proofs.Common.{◌≡◌, ◌++◌, drop}
use Rattle.sv_design.specs.Subroutines.{formals_from}
use Rattle.sv_design.proofs.subroutines.numbered_formals.Given as goal

-- what is listed, and the formals left over
abbrev pub invariant-loop-formal : goal.invariant-loop-formal
invariant-loop-formal l = l.list ++ formals_from l.number (drop l.formal-index l.formals) ≡ formals_from l.first l.formals
