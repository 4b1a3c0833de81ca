use Rattle.std.proofs.Common.{◌∙◌, ◌++◌, ap, sym}
use Rattle.std.specs.Prelude.{flat_map}
use Rattle.sv_tree.specs.declared.statements.Block.{out-Block}
use Rattle.sv_tree.specs.declared.statements.If.{out-If}
use Rattle.sv_design.specs.Blocks.{label_place, in_stmt, in_item, in_else_if, in_last}
use Rattle.sv_design.proofs.Adding.{both_added, adds_both}
use Rattle.sv_design.proofs.BlockLists.{case_is, block_is, if_is}
use Rattle.sv_design.proofs.blocks.+blocks.Goals as goal

pub add_block-returns : goal.add_block-returns
add_block-returns t c =
    let file = c.args.file in
    let b = c.args.block.now in
    let statements = rw c.as_slice.ensures at c.add_stmts.ensures in
    rw (block_is file b) (adds_both c.args.list.now.items c.add_label.new.list.items c.add_stmts.new.list.items (label_place file (out-Block b).label) (flat_map (in_stmt file) (out-Block b).statements) c.add_stmts.result c.in_ok-add_label.ensures statements)

pub add_if-returns : goal.add_if-returns
add_if-returns t c =
    let file = c.args.file in
    let i = out-If c.args.branches.now in
    let old = c.args.list.now.items in
    let others = rw c.as_slice.ensures at c.in_ok-add_others.ensures in
    let two = both_added old c.add_stmt.new.list.items c.add_others.new.list.items (in_stmt file i.body) (flat_map (in_else_if file) i.others) c.in_ok-add_stmt.ensures others in
    rw (if_is file c.args.branches.now) (adds_both old c.add_others.new.list.items c.add_last.new.list.items (in_stmt file i.body ++ flat_map (in_else_if file) i.others) (in_last file i.last) c.add_last.result two c.add_last.ensures)

pub add_stmt-returns-in-Case : goal.add_stmt-returns-in-Case
add_stmt-returns-in-Case t c =
    let file = c.args.file in
    let is = ap (in_stmt file) c.in-Case.is ∙ case_is file c.in-Case.field-0 c.in-Case.field-1 c.in-Case.items ∙ ap (flat_map (in_item file)) (sym c.as_slice.ensures) in
    rw is c.add_case_items.ensures
