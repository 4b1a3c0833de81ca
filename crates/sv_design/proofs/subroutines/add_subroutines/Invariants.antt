use Rattle.std.proofs.Common.{◌≡◌, ◌++◌, drop, length}
use Rattle.std.specs.Prelude.{flat_map}
use Rattle.sv_design.specs.Items.{item_declarations}
use Rattle.sv_design.specs.Counted.{counted}
use Rattle.sv_design.specs.Subroutines.{item_subroutines}
use Rattle.sv_design.proofs.subroutines.add_subroutines.Given as goal

-- what is declared and listed, and the items left over
abbrev pub invariant-loop-item : goal.invariant-loop-item
invariant-loop-item l = record {
  declared : l.declared.items ++ flat_map (item_declarations l.file) (drop l.item-index l.items) ≡ l.initial.declared.items ++ flat_map (item_declarations l.file) l.items;
  listed : l.list.items ++ counted (item_declarations l.file) (item_subroutines l.file) (length l.declared.items) (drop l.item-index l.items) ≡ l.initial.list.items ++ counted (item_declarations l.file) (item_subroutines l.file) (length l.initial.declared.items) l.items;
}
