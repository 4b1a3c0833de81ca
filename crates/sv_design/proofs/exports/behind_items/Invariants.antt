use Rattle.std.proofs.Common.{◌≡◌, drop}
use Rattle.sv_design.specs.Exports.{behind_items}
use Rattle.sv_design.proofs.exports.behind_items.Given as goal

-- the items left over
abbrev pub invariant-loop-item : goal.invariant-loop-item
invariant-loop-item l = behind_items l.behind (drop l.item-index l.items) ≡ behind_items l.number l.items
