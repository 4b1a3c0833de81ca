use Rattle.std.proofs.Common.{◌≡◌, ◌++◌, drop}
use Rattle.sv_scopes.specs.Homes.{homes_from}
use Rattle.sv_scopes.proofs.homes.add_homes.Given as goal

-- what is listed, and the modules left over
abbrev pub invariant-loop-module : goal.invariant-loop-module
invariant-loop-module l = l.list.items ++ homes_from l.file l.number (drop l._module-index l.modules) ≡ l.initial.list.items ++ homes_from l.file 0 l.modules
