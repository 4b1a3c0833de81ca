use Rattle.std.proofs.Common.{◌≡◌, drop}
use Rattle.sv_design.specs.Exports.{subroutine_named}
use Rattle.sv_design.proofs.exports.subroutine_named.Given as goal

-- no item before has the name
abbrev pub invariant-loop-item : goal.invariant-loop-item
invariant-loop-item l = subroutine_named l.name l.number (drop l.item-index l.items) ≡ subroutine_named l.name l.first l.items
