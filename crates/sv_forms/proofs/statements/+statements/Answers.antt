use Rattle.dpi_rules.proofs.Noting.{noted_first, noted_next, noted_both}
use Rattle.sv_forms.proofs.Notes.{all_noted_at}
use Rattle.sv_forms.specs.Statements.{in_stmt, in_item, in_else_if}
use Rattle.std.proofs.Common.{map, ◌++◌}
use Rattle.std.specs.Prelude.{option_map}
use Rattle.sv_tree.specs.declared.statements.Block.{out-Block}
use Rattle.sv_tree.specs.declared.statements.If.{out-If}
use Rattle.sv_forms.specs.Calls.{all_of}
use Rattle.sv_forms.specs.Labels.{block_end_violations}
use Rattle.sv_forms.specs.Statements.{in_else, each_at, maybe_at, locals_violations}
use Rattle.sv_forms.proofs.StatementForms.{block_is, if_is}
use Rattle.sv_forms.proofs.statements.+statements.Goals as goal

pub note_stmts-loop-stmt-init : goal.note_stmts-loop-stmt-init
note_stmts-loop-stmt-init t c = noted_first (λ x. in_stmt c.args.file x c.args.around) c.args.found.now c.args.stmts.now

pub note_stmts-loop-stmt-preserved : goal.note_stmts-loop-stmt-preserved
note_stmts-loop-stmt-preserved t c = noted_next c.args.stmts.now c.loop-stmt.stmt-index c.stmt-item.result c.loop-stmt-test.true c.stmt-item.is c.note_stmt.ensures c.loop-stmt.invariant

pub note_stmts-returns : goal.note_stmts-returns
note_stmts-returns t c = all_noted_at (in_stmt c.args.file) c.args.around c.args.stmts.now c.loop-stmt.stmt-index c.loop-stmt-test.false c.loop-stmt.invariant

pub note_items-loop-item-init : goal.note_items-loop-item-init
note_items-loop-item-init t c = noted_first (λ x. in_item c.args.file x c.args.around) c.args.found.now c.args.items.now

pub note_items-loop-item-preserved : goal.note_items-loop-item-preserved
note_items-loop-item-preserved t c = noted_next c.args.items.now c.loop-item.item-index c.item-item.result c.loop-item-test.true c.item-item.is c.note_item.ensures c.loop-item.invariant

pub note_items-returns : goal.note_items-returns
note_items-returns t c = all_noted_at (in_item c.args.file) c.args.around c.args.items.now c.loop-item.item-index c.loop-item-test.false c.loop-item.invariant

pub note_others-loop-other-init : goal.note_others-loop-other-init
note_others-loop-other-init t c = noted_first (λ x. in_else_if c.args.file x c.args.around) c.args.found.now c.args.others.now

pub note_others-loop-other-preserved : goal.note_others-loop-other-preserved
note_others-loop-other-preserved t c = noted_next c.args.others.now c.loop-other.other-index c.other-item.result c.loop-other-test.true c.other-item.is c.note_else_if.ensures c.loop-other.invariant

pub note_others-returns : goal.note_others-returns
note_others-returns t c = all_noted_at (in_else_if c.args.file) c.args.around c.args.others.now c.loop-other.other-index c.loop-other-test.false c.loop-other.invariant

pub note_block-returns : goal.note_block-returns
note_block-returns t c =
    let block = out-Block c.args.block.now in
    let around = c.args.around in
    let stmts = rw c.as_slice-2.ensures at c.note_stmts.ensures in
    let locals = rw c.as_slice.ensures at c.note_locals.ensures in
    rw (block_is c.args.file c.args.block.now around)
    (noted_both
    c.args.found.now
    (all_of (map (locals_violations c.args.file around) block.variables) ++ each_at around (map (in_stmt c.args.file) block.statements))
    (block_end_violations c.args.file block.label block.end)
    (noted_both
    c.args.found.now
    (all_of (map (locals_violations c.args.file around) block.variables))
    (each_at around (map (in_stmt c.args.file) block.statements))
    locals
    stmts)
    c.note_block_end.ensures)

pub note_if-returns : goal.note_if-returns
note_if-returns t c =
    let branches = out-If c.args.branches.now in
    let around = c.args.around in
    let others = rw c.as_slice.ensures at c.note_others.ensures in
    rw (if_is c.args.file c.args.branches.now around)
    (noted_both
    c.args.found.now
    (in_stmt c.args.file branches.body around ++ each_at around (map (in_else_if c.args.file) branches.others))
    (maybe_at around (option_map (in_else c.args.file) branches.last))
    (noted_both
    c.args.found.now
    (in_stmt c.args.file branches.body around)
    (each_at around (map (in_else_if c.args.file) branches.others))
    c.note_stmt.ensures
    others)
    c.note_last.ensures)
