use Rattle.std.proofs.Common.{◌≡◌, ◌++◌, drop, map}
use Rattle.sv_scopes.specs.Variables.{variable}
use Rattle.sv_scopes.proofs.variables.add_variables.Given as goal

-- what is listed, and the names left over
abbrev pub invariant-loop-named : goal.invariant-loop-named
invariant-loop-named l = l.list.items ++ map (variable l.scope) (drop l.named-index l.names) ≡ l.initial.list.items ++ map (variable l.scope) l.names
