use Rattle.c_walk.specs.Sight.{both, stays}
use Rattle.c_walk.specs.Around.{around_of}
use Rattle.c_walk.specs.Statements.{start_walk, maybe_condition, maybe_expr}
use Rattle.c_walk.proofs.Walking.{is_behind_both, behind_both, is_stays, stays_kept}
use Rattle.c_walk.proofs.statements.walk_head.Goals as goal

pub returns : goal.returns
returns c s h =
    let a = around_of c.args.outside.now in
    let start = start_walk a c.args.start.now in
    let condition = maybe_condition a c.args.condition.now in
    let change = maybe_expr a c.args.change.now in
    behind_both (both start (stays condition)) (stays change) _ _ c.note_maybe_expr.result
    (is_behind_both start (stays condition) (c.in_ok-walk_start.ensures s h) (is_stays condition c.in_ok-note_maybe_condition.ensures))
    (stays_kept change _ _ _ _ c.note_maybe_expr.result c.note_maybe_expr.ensures)
