use Rattle.std.proofs.Common.{◌++◌, []}
use Rattle.std.specs.Prelude.{flat_map, unwrap_or, option_map}
use Rattle.c_tree.specs.declared.statements.If.{out-If}
use Rattle.c_functions.specs.Inner.{seen}
use Rattle.c_program.specs.Inside.{in_stmt, in_else_if, in_else}
use Rattle.c_functions.proofs.InnerLists.{adds_both}
use Rattle.c_program.proofs.InsideLists.{block_is, if_is}
use Rattle.c_program.proofs.inside.+inside.Goals as goal

pub add_block-returns : goal.add_block-returns
add_block-returns t c =
    let parts = rw c.as_slice.ensures at c.in_ok-add_parts.ensures in
    rw (block_is c.args.block.now) parts

pub add_if-returns : goal.add_if-returns
add_if-returns t c =
    let branches = out-If c.args.branches.now in
    let start = seen c.args.list.now in
    let others = rw c.as_slice.ensures at c.in_ok-add_others.ensures in
    rw (if_is c.args.branches.now)
    (adds_both start
    (in_stmt branches.body ++ flat_map in_else_if branches.others)
    (unwrap_or (option_map in_else branches.last) [])
    (adds_both start
    (in_stmt branches.body)
    (flat_map in_else_if branches.others)
    c.in_ok-add_stmt.ensures
    others)
    c.in_ok-add_last.ensures)
