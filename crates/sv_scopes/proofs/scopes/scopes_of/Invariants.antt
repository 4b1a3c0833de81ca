use Rattle.std.proofs.Common.{◌≡◌, ◌++◌, drop}
use Rattle.sv_scopes.specs.Scopes.{scopes_of}
use Rattle.sv_scopes.proofs.scopes.scopes_of.Given as goal

-- what is listed, and the instances left over
abbrev pub invariant-loop-instance : goal.invariant-loop-instance
invariant-loop-instance l = l.list.items ++ scopes_of l.homes (drop l.instance-index l.instances) ≡ scopes_of l.homes l.instances
