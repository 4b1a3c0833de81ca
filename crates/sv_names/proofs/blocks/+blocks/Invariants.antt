use Rattle.std.proofs.Common.{flat_map, drop}
use Rattle.sv_names.specs.Names.{names_of}
use Rattle.sv_names.specs.Blocks as spec
use Rattle.sv_names.specs.Declaring.{IsDeclaring}
use Rattle.sv_names.proofs.blocks.+blocks.Given as goal

-- what the items left over declare
abbrev pub invariant-declare_items-loop-item : goal.invariant-declare_items-loop-item
invariant-declare_items-loop-item l =
    IsDeclaring l.file (flat_map spec.item_blocks l.items) (names_of l.initial.scope) l.initial.found (flat_map spec.item_blocks (drop l.item-index l.items)) (names_of l.scope) l.found

-- what the parts left over declare
abbrev pub invariant-declare_others-loop-other : goal.invariant-declare_others-loop-other
invariant-declare_others-loop-other l =
    IsDeclaring l.file (flat_map spec.else_if_blocks l.others) (names_of l.initial.scope) l.initial.found (flat_map spec.else_if_blocks (drop l.other-index l.others)) (names_of l.scope) l.found
