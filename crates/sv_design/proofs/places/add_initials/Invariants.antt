use Rattle.std.proofs.Common.{◌≡◌, ◌++◌, drop}
use Rattle.std.specs.Prelude.{flat_map}
use Rattle.sv_design.specs.Places.{item_initials}
use Rattle.sv_design.proofs.places.add_initials.Given as goal

-- what is listed, and the items left over
abbrev pub invariant-loop-item : goal.invariant-loop-item
invariant-loop-item l =
    l.list.items ++ flat_map (item_initials l.file) (drop l.item-index l.items) ≡ l.initial.list.items ++ flat_map (item_initials l.file) l.items
