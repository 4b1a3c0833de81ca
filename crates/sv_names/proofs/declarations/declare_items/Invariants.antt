use Rattle.std.proofs.Common.{◌≤◌, drop}
use Rattle.sv_names.specs.Names.{names_of}
use Rattle.sv_names.specs.Declarations as spec
use Rattle.sv_names.specs.Declaring.{IsDeclaring}
use Rattle.sv_names.proofs.declarations.declare_items.Given as goal

abbrev pub invariant-loop-item : goal.invariant-loop-item
invariant-loop-item l = record {
  subroutines_fit : l.subroutines ≤ l.item-index;
  imports_fit : l.imports ≤ l.item-index;
  declaring : IsDeclaring l.file (spec.items_declare 0 0 l.items) (names_of l.initial.scope) l.initial.found (spec.items_declare l.subroutines l.imports (drop l.item-index l.items)) (names_of l.scope) l.found;
}
