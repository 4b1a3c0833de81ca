use Rattle.std.proofs.Common.{◌++◌, map}
use Rattle.std.specs.Prelude.{option_map}
use Rattle.dpi_rules.proofs.Noting.{noted_first, noted_next, noted_both}
use Rattle.c_tree.specs.declared.statements.If.{out-If}
use Rattle.c_calls.specs.Refusals.{rules_of}
use Rattle.c_calls.specs.Expressions.{all_of, where_there, in_expr}
use Rattle.c_calls.specs.Statements.{guarded, in_head, in_stmt, in_part, in_else_if, in_else}
use Rattle.c_calls.proofs.Notes.{all_noted}
use Rattle.c_calls.proofs.StatementForms.{block_is, if_is}
use Rattle.c_calls.proofs.statements.+statements.Goals as goal

pub note_parts-loop-part-init : goal.note_parts-loop-part-init
note_parts-loop-part-init t c = noted_first (in_part c.args.file (rules_of c.args.refusals.now)) c.args.found.now c.args.parts.now

pub note_parts-loop-part-preserved : goal.note_parts-loop-part-preserved
note_parts-loop-part-preserved t c = noted_next c.args.parts.now c.loop-part.part-index c.part-item.result c.loop-part-test.true c.part-item.is c.note_part.ensures c.loop-part.invariant

pub note_parts-returns : goal.note_parts-returns
note_parts-returns t c = all_noted c.args.parts.now c.loop-part.part-index c.loop-part-test.false c.loop-part.invariant

pub note_others-loop-other-init : goal.note_others-loop-other-init
note_others-loop-other-init t c = noted_first (in_else_if c.args.file (rules_of c.args.refusals.now)) c.args.found.now c.args.others.now

pub note_others-loop-other-preserved : goal.note_others-loop-other-preserved
note_others-loop-other-preserved t c = noted_next c.args.others.now c.loop-other.other-index c.other-item.result c.loop-other-test.true c.other-item.is c.note_else_if.ensures c.loop-other.invariant

pub note_others-returns : goal.note_others-returns
note_others-returns t c = all_noted c.args.others.now c.loop-other.other-index c.loop-other-test.false c.loop-other.invariant

pub note_block-returns : goal.note_block-returns
note_block-returns t c =
    let parts = rw c.as_slice.ensures at c.note_parts.ensures in
    rw (block_is c.args.file (rules_of c.args.refusals.now) c.args.block.now) parts

pub note_guarded-returns : goal.note_guarded-returns
note_guarded-returns t c = noted_both c.args.found.now (in_expr c.args.file (rules_of c.args.refusals.now) c.args.condition.now) (in_stmt c.args.file (rules_of c.args.refusals.now) c.args.body.now) c.note_expr.ensures c.note_stmt.ensures

pub note_for-returns : goal.note_for-returns
note_for-returns t c = noted_both c.args.found.now (in_head c.args.file (rules_of c.args.refusals.now) c.args.start.now c.args.condition.now c.args.change.now) (in_stmt c.args.file (rules_of c.args.refusals.now) c.args.body.now) c.note_head.ensures c.note_stmt.ensures

pub note_if-returns : goal.note_if-returns
note_if-returns t c =
    let o = out-If c.args.branches.now in
    let others = rw c.as_slice.ensures at c.note_others.ensures in
    rw (if_is c.args.file (rules_of c.args.refusals.now) c.args.branches.now)
    (noted_both
    c.args.found.now
    (guarded c.args.file (rules_of c.args.refusals.now) o.condition (in_stmt c.args.file (rules_of c.args.refusals.now) o.body) ++ all_of (map (in_else_if c.args.file (rules_of c.args.refusals.now)) o.others))
    (where_there (option_map (in_else c.args.file (rules_of c.args.refusals.now)) o.last))
    (noted_both
    c.args.found.now
    (guarded c.args.file (rules_of c.args.refusals.now) o.condition (in_stmt c.args.file (rules_of c.args.refusals.now) o.body))
    (all_of (map (in_else_if c.args.file (rules_of c.args.refusals.now)) o.others))
    c.note_guarded.ensures
    others)
    c.note_last.ensures)
