use Rattle.std.proofs.Common.{◌≡◌, ◌++◌, drop}
use Rattle.std.specs.Prelude.{flat_map}
use Rattle.sv_design.specs.Blocks.{in_stmt, in_item, in_else_if}
use Rattle.sv_design.proofs.blocks.+blocks.Given as goal

-- what is listed, and the statements left over
abbrev pub invariant-add_stmts-loop-stmt : goal.invariant-add_stmts-loop-stmt
invariant-add_stmts-loop-stmt l =
    let of = in_stmt l.file in
    l.list.items ++ flat_map of (drop l.stmt-index l.stmts) ≡ l.initial.list.items ++ flat_map of l.stmts

-- what is listed, and the items left over
abbrev pub invariant-add_case_items-loop-item : goal.invariant-add_case_items-loop-item
invariant-add_case_items-loop-item l =
    let of = in_item l.file in
    l.list.items ++ flat_map of (drop l.item-index l.items) ≡ l.initial.list.items ++ flat_map of l.items

-- what is listed, and the parts left over
abbrev pub invariant-add_others-loop-other : goal.invariant-add_others-loop-other
invariant-add_others-loop-other l =
    let of = in_else_if l.file in
    l.list.items ++ flat_map of (drop l.other-index l.others) ≡ l.initial.list.items ++ flat_map of l.others
