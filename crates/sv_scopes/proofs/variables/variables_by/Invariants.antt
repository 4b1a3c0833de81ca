use Rattle.std.proofs.Common.{◌≡◌, ◌++◌, drop}
use Rattle.sv_scopes.specs.Variables.{variables_from}
use Rattle.sv_scopes.proofs.variables.variables_by.Given as goal

-- what is listed, and the scopes left over
abbrev pub invariant-loop-scope : goal.invariant-loop-scope
invariant-loop-scope l = l.list.items ++ variables_from l.table l.number (drop l.scope-index l.scopes) ≡ variables_from l.table 0 l.scopes
