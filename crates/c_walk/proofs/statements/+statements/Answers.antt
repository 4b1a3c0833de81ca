use Rattle.std.proofs.Common.{◌∙◌, ◌+◌, ◌++◌, map, drop, refl, sym, ap}
use Rattle.std.specs.Prelude.{option_map}
use Rattle.dpi_rules.specs.Least.{noted}
use Rattle.dpi_rules.proofs.Noting.{noted_first, noted_next, noted_last}
use Rattle.c_tree.specs.declared.statements.ElseIf.{out-ElseIf}
use Rattle.c_tree.specs.declared.statements.If.{out-If}
use Rattle.c_names.specs.Names.{names_of}
use Rattle.c_names.specs.Scopes.{scopes_of}
use Rattle.c_walk.specs.Sight.{in_turn, both, stays}
use Rattle.c_walk.specs.Around.{around_of}
use Rattle.c_walk.specs.Statements.{condition_breaks, guarded, others_breaks, maybe_of, head_walk, in_stmt, in_part, in_else, in_else_if, in_if}
use Rattle.c_walk.proofs.Walking.{is_behind_both, is_stays, kept_both, keeps_both, keeps_same, scoped_kept, following_first, following_more, following_last, turn_next, turn_last}
use Rattle.c_walk.proofs.Trees.{while_is, do_is, else_if_is, if_is}
use Rattle.c_walk.proofs.statements.+statements.Goals as goal

pub walk_stmt-returns-in-While : goal.walk_stmt-returns-in-While
walk_stmt-returns-in-While t c =
    let a = around_of c.args.outside.now in
    let is = ap (in_stmt a) c.in-While.is ∙ while_is a c.in-While.field-0 c.in-While.e c.in-While.body in
    rw is (rw c.get-in-While.ensures at c.walk_guarded.ensures)

pub walk_stmt-returns-in-Do : goal.walk_stmt-returns-in-Do
walk_stmt-returns-in-Do t c =
    let a = around_of c.args.outside.now in
    let is = ap (in_stmt a) c.in-Do.is ∙ do_is a c.in-Do.field-0 c.in-Do.field-2 c.in-Do.e c.in-Do.body in
    rw is (rw c.get-in-Do.ensures at c.walk_guarded-in-Do.ensures)

pub walk_parts-loop-part-init : goal.walk_parts-loop-part-init
walk_parts-loop-part-init t c s h = following_first (in_turn (map (in_part (around_of c.args.outside.now)) c.args.parts.now)) s c.args.found.now h

pub walk_parts-loop-part-preserved : goal.walk_parts-loop-part-preserved
walk_parts-loop-part-preserved t c s h =
    let of = in_part (around_of c.args.outside.now) in
    let xs = c.args.parts.now in
    let i = c.loop-part.part-index in
    let x = c.part-item.result in
    following_more (of x) (in_turn (map of (drop (i + 1) xs))) (turn_next of xs i x c.loop-part-test.true c.part-item.is) c.in_ok-walk_part.ensures (c.loop-part.invariant s h)

pub walk_parts-returns : goal.walk_parts-returns
walk_parts-returns t c s h =
    following_last (turn_last (in_part (around_of c.args.outside.now)) c.args.parts.now c.loop-part.part-index c.loop-part-test.false) (c.loop-part.invariant s h)

pub walk_scoped-returns : goal.walk_scoped-returns
walk_scoped-returns t c =
    scoped_kept (in_turn (map (in_part (around_of c.args.outside.now)) c.args.parts.now)) (names_of c.new.result) c.new.ensures c.in_ok-enter.ensures c.in_ok-walk_parts.ensures c.leave.ensures

pub walk_for-returns : goal.walk_for-returns
walk_for-returns t c =
    let a = around_of c.args.outside.now in
    let head = head_walk a c.args.start.now c.args.condition.now c.args.change.now in
    let body = in_stmt a c.args.body.now in
    scoped_kept (both head (stays body)) (names_of c.new.result) c.new.ensures c.in_ok-enter.ensures
    (λ s h. is_behind_both head (stays body) (c.in_ok-walk_head.ensures s h) (is_stays body c.in_ok-walk_stmt.ensures))
    c.leave.ensures

pub walk_guarded-returns : goal.walk_guarded-returns
walk_guarded-returns t c =
    let a = around_of c.args.outside.now in
    keeps_both (condition_breaks a c.args.condition.now) (in_stmt a c.args.body.now) _ _ c.walk_stmt.result c.in_ok-note_condition.ensures c.walk_stmt.ensures

pub walk_if-returns : goal.walk_if-returns
walk_if-returns t c =
    let a = around_of c.args.outside.now in
    let i = out-If c.args.branches.now in
    let first = guarded a i.condition (in_stmt a i.body) in
    let others = others_breaks a i.others in
    let last = maybe_of (option_map (in_else a) i.last) in
    keeps_same (λ n. others n ++ first n ++ last n) (in_if a c.args.branches.now) _ _ _ _ c.walk_last.result (λ n. sym (if_is a c.args.branches.now n))
    (keeps_both (λ n. others n ++ first n) last _ _ c.walk_last.result
    (kept_both others first (rw c.as_slice.ensures at c.in_ok-walk_others.ensures) c.in_ok-walk_guarded.ensures)
    c.walk_last.ensures)

pub walk_others-loop-other-init : goal.walk_others-loop-other-init
walk_others-loop-other-init t c = record {
  scopes_are = refl;
  noted = noted_first (λ p. in_else_if (around_of c.args.outside.now) p (scopes_of c.args.scopes.now)) c.args.found.now c.args.others.now;
}

pub walk_others-loop-other-preserved : goal.walk_others-loop-other-preserved
walk_others-loop-other-preserved t c =
    let a = around_of c.args.outside.now in
    let x = c.other-item.result in
    let inv = c.loop-other.invariant in
    let k = c.in_ok-walk_guarded.ensures in
    record {
      scopes_are = k.scopes_are ∙ inv.scopes_are;
      noted = noted_next c.args.others.now c.loop-other.other-index x c.loop-other-test.true c.other-item.is
          (k.found_are ∙ ap (λ n. noted c.loop-other.found (guarded a (out-ElseIf x).condition (in_stmt a (out-ElseIf x).body) n)) inv.scopes_are ∙ ap (noted c.loop-other.found) (sym (else_if_is a x (scopes_of c.args.scopes.now))))
          inv.noted;
    }

pub walk_others-returns : goal.walk_others-returns
walk_others-returns t c = record {
  scopes_are = c.loop-other.invariant.scopes_are;
  found_are = noted_last c.args.others.now c.loop-other.other-index c.loop-other-test.false c.loop-other.invariant.noted;
}
