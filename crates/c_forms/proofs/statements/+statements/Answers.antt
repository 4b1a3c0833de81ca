use Rattle.dpi_rules.proofs.Noting.{noted_first, noted_next, noted_last, noted_both}
use Rattle.c_forms.specs.Statements.{part_at, else_if_at}
use Rattle.std.proofs.Common.{◌++◌}
use Rattle.std.specs.Prelude.{option_map, flat_map}
use Rattle.c_tree.specs.declared.statements.If.{out-If}
use Rattle.c_forms.specs.Statements.{in_stmt, in_else, in_loop, maybe_at, start_violations}
use Rattle.c_forms.proofs.StatementForms.{block_is, if_is}
use Rattle.c_forms.proofs.statements.+statements.Goals as goal

pub note_parts-loop-part-init : goal.note_parts-loop-part-init
note_parts-loop-part-init t c = noted_first (part_at c.args.file c.args.around) c.args.found.now c.args.parts.now

pub note_parts-loop-part-preserved : goal.note_parts-loop-part-preserved
note_parts-loop-part-preserved t c = noted_next c.args.parts.now c.loop-part.part-index c.part-item.result c.loop-part-test.true c.part-item.is c.note_part.ensures c.loop-part.invariant

pub note_parts-returns : goal.note_parts-returns
note_parts-returns t c = noted_last c.args.parts.now c.loop-part.part-index c.loop-part-test.false c.loop-part.invariant

pub note_others-loop-other-init : goal.note_others-loop-other-init
note_others-loop-other-init t c = noted_first (else_if_at c.args.file c.args.around) c.args.found.now c.args.others.now

pub note_others-loop-other-preserved : goal.note_others-loop-other-preserved
note_others-loop-other-preserved t c = noted_next c.args.others.now c.loop-other.other-index c.other-item.result c.loop-other-test.true c.other-item.is c.note_else_if.ensures c.loop-other.invariant

pub note_others-returns : goal.note_others-returns
note_others-returns t c = noted_last c.args.others.now c.loop-other.other-index c.loop-other-test.false c.loop-other.invariant

pub note_block-returns : goal.note_block-returns
note_block-returns t c =
    let parts = rw c.as_slice.ensures at c.note_parts.ensures in
    rw (block_is c.args.file c.args.block.now c.args.around) parts

pub note_if-returns : goal.note_if-returns
note_if-returns t c =
    let branches = out-If c.args.branches.now in
    let around = c.args.around in
    let others = rw c.as_slice.ensures at c.note_others.ensures in
    rw (if_is c.args.file c.args.branches.now around)
    (noted_both
    c.args.found.now
    (in_stmt c.args.file branches.body around ++ flat_map (else_if_at c.args.file around) branches.others)
    (maybe_at around (option_map (in_else c.args.file) branches.last))
    (noted_both
    c.args.found.now
    (in_stmt c.args.file branches.body around)
    (flat_map (else_if_at c.args.file around) branches.others)
    c.note_stmt.ensures
    others)
    c.note_last.ensures)

pub note_for-returns : goal.note_for-returns
note_for-returns t c =
    let body = rw c.in_loop.ensures at c.note_stmt.ensures in
    noted_both c.args.found.now (start_violations c.args.file c.args.start.now) (in_stmt c.args.file c.args.body.now (in_loop c.args.around)) c.note_start.ensures body
