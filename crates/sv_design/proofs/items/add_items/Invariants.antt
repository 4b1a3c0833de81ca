use Rattle.std.proofs.Common.{◌≡◌, ◌++◌, drop}
use Rattle.std.specs.Prelude.{flat_map}
use Rattle.sv_design.specs.Items.{item_declarations}
use Rattle.sv_design.proofs.items.add_items.Given as goal

-- what is listed, and the items left over
abbrev pub invariant-loop-item : goal.invariant-loop-item
invariant-loop-item l =
    let of = item_declarations l.file in
    l.list.items ++ flat_map of (drop l.item-index l.items) ≡ l.initial.list.items ++ flat_map of l.items
