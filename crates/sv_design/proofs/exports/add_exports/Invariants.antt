use Rattle.std.proofs.Common.{◌≡◌, ◌++◌, drop}
use Rattle.std.specs.Prelude.{flat_map}
use Rattle.sv_design.specs.Exports.{item_exports}
use Rattle.sv_design.proofs.exports.add_exports.Given as goal

-- what is listed, and the items left over
abbrev pub invariant-loop-item : goal.invariant-loop-item
invariant-loop-item l =
    let of = item_exports l.file l.first l.items in
    l.list.items ++ flat_map of (drop l.item-index l.items) ≡ l.initial.list.items ++ flat_map of l.items
