use Rattle.std.proofs.Common.{◌∙◌, ◌+◌, ◌++◌, map, drop, refl, sym, ap}
use Rattle.std.specs.Prelude.{option_map}
use Rattle.std.proofs.lemmas.List.{append-nil}
use Rattle.c_tree.specs.declared.statements.ElseIf.{out-ElseIf}
use Rattle.c_tree.specs.declared.statements.If.{out-If}
use Rattle.c_names.specs.Names.{names_of}
use Rattle.c_names.specs.Scopes.{scopes_of}
use Rattle.c_walk.specs.Around.{around_of}
use Rattle.c_meanings.specs.Sight.{in_turn, both, stays}
use Rattle.c_meanings.specs.Statements.{expr_says, maybe_says, guarded, done_while, others_say, maybe_of, head_tells, in_stmt, in_part, in_else, in_else_if, in_if}
use Rattle.c_meanings.proofs.Adding.{adding_first, adding_next, adding_last}
use Rattle.c_meanings.proofs.Telling.{is_behind_both, is_stays, keeps_said, kept_said, kept_both, keeps_both, keeps_same, scoped_kept, following_first, following_more, following_last, turn_next, turn_last}
use Rattle.c_meanings.proofs.Trees.{empty_is, break_is, continue_is, expr_is, return_is, while_is, do_is, else_if_is, if_is}
use Rattle.c_meanings.proofs.statements.+statements.Goals as goal

pub add_stmt-returns-in-Empty : goal.add_stmt-returns-in-Empty
add_stmt-returns-in-Empty t c =
    let a = around_of c.args.outside.now in
    let is = ap (in_stmt a) c.in-Empty.is ∙ empty_is a c.in-Empty.field-0 in
    rw is (record { scopes_are = refl; list_is = sym (append-nil c.args.list.now.items) })

pub add_stmt-returns-in-Break : goal.add_stmt-returns-in-Break
add_stmt-returns-in-Break t c =
    let a = around_of c.args.outside.now in
    let is = ap (in_stmt a) c.in-Break.is ∙ break_is a c.in-Break.field-0 in
    rw is (record { scopes_are = refl; list_is = sym (append-nil c.args.list.now.items) })

pub add_stmt-returns-in-Continue : goal.add_stmt-returns-in-Continue
add_stmt-returns-in-Continue t c =
    let a = around_of c.args.outside.now in
    let is = ap (in_stmt a) c.in-Continue.is ∙ continue_is a c.in-Continue.field-0 in
    rw is (record { scopes_are = refl; list_is = sym (append-nil c.args.list.now.items) })

pub add_stmt-returns-in-Expr : goal.add_stmt-returns-in-Expr
add_stmt-returns-in-Expr t c =
    let a = around_of c.args.outside.now in
    let is = ap (in_stmt a) c.in-Expr.is ∙ expr_is a c.in-Expr.e in
    rw is (keeps_said (expr_says a c.in-Expr.e) (scopes_of c.args.scopes.now) c.args.list.now.items c.add_value.new.list.items c.add_value.result c.add_value.ensures)

pub add_stmt-returns-in-Return : goal.add_stmt-returns-in-Return
add_stmt-returns-in-Return t c =
    let a = around_of c.args.outside.now in
    let is = ap (in_stmt a) c.in-Return.is ∙ return_is a c.in-Return.field-0 c.in-Return.e in
    rw is (keeps_said (maybe_says a c.in-Return.e) (scopes_of c.args.scopes.now) c.args.list.now.items c.add_maybe.new.list.items c.add_maybe.result c.add_maybe.ensures)

pub add_stmt-returns-in-While : goal.add_stmt-returns-in-While
add_stmt-returns-in-While t c =
    let a = around_of c.args.outside.now in
    let is = ap (in_stmt a) c.in-While.is ∙ while_is a c.in-While.field-0 c.in-While.e c.in-While.body in
    rw is (rw c.get-in-While.ensures at c.add_guarded.ensures)

pub add_stmt-returns-in-Do : goal.add_stmt-returns-in-Do
add_stmt-returns-in-Do t c =
    let a = around_of c.args.outside.now in
    let is = ap (in_stmt a) c.in-Do.is ∙ do_is a c.in-Do.field-0 c.in-Do.field-2 c.in-Do.e c.in-Do.body in
    rw is (rw c.get-in-Do.ensures at c.add_done.ensures)

pub add_parts-loop-part-init : goal.add_parts-loop-part-init
add_parts-loop-part-init t c s h = following_first (in_turn (map (in_part (around_of c.args.outside.now)) c.args.parts.now)) s c.args.list.now.items h

pub add_parts-loop-part-preserved : goal.add_parts-loop-part-preserved
add_parts-loop-part-preserved t c s h =
    let of = in_part (around_of c.args.outside.now) in
    let xs = c.args.parts.now in
    let i = c.loop-part.part-index in
    let x = c.part-item.result in
    following_more (of x) (in_turn (map of (drop (i + 1) xs))) (turn_next of xs i x c.loop-part-test.true c.part-item.is) c.in_ok-add_part.ensures (c.loop-part.invariant s h)

pub add_parts-returns : goal.add_parts-returns
add_parts-returns t c s h =
    following_last (turn_last (in_part (around_of c.args.outside.now)) c.args.parts.now c.loop-part.part-index c.loop-part-test.false) (c.loop-part.invariant s h)

pub add_scoped-returns : goal.add_scoped-returns
add_scoped-returns t c =
    scoped_kept (in_turn (map (in_part (around_of c.args.outside.now)) c.args.parts.now)) (names_of c.new.result) c.new.ensures c.in_ok-enter.ensures c.in_ok-add_parts.ensures c.leave.ensures

pub add_for-returns : goal.add_for-returns
add_for-returns t c =
    let a = around_of c.args.outside.now in
    let head = head_tells a c.args.start.now c.args.condition.now c.args.change.now in
    let body = in_stmt a c.args.body.now in
    scoped_kept (both head (stays body)) (names_of c.new.result) c.new.ensures c.in_ok-enter.ensures
    (λ s h. is_behind_both head (stays body) (c.in_ok-add_head.ensures s h) (is_stays body c.in_ok-add_stmt.ensures))
    c.leave.ensures

pub add_guarded-returns : goal.add_guarded-returns
add_guarded-returns t c =
    let a = around_of c.args.outside.now in
    let first = expr_says a c.args.condition.now in
    let names = scopes_of c.args.scopes.now in
    keeps_both first (in_stmt a c.args.body.now) (scopes_of c.add_stmt.new.scopes) c.add_stmt.new.list.items c.add_stmt.result
    (kept_said (first names) names c.args.list.now.items c.add_value.new.list.items c.in_ok-add_value.ensures) c.add_stmt.ensures

pub add_done-returns : goal.add_done-returns
add_done-returns t c =
    let a = around_of c.args.outside.now in
    let second = expr_says a c.args.condition.now in
    let names = scopes_of c.add_stmt.new.scopes in
    keeps_both (in_stmt a c.args.body.now) second names c.add_value.new.list.items c.add_value.result
    c.in_ok-add_stmt.ensures (keeps_said second names c.add_stmt.new.list.items c.add_value.new.list.items c.add_value.result c.add_value.ensures)

pub add_if-returns : goal.add_if-returns
add_if-returns t c =
    let a = around_of c.args.outside.now in
    let i = out-If c.args.branches.now in
    let first = guarded a i.condition (in_stmt a i.body) in
    let others = others_say a i.others in
    let last = maybe_of (option_map (in_else a) i.last) in
    keeps_same (λ n. others n ++ first n ++ last n) (in_if a c.args.branches.now) _ _ _ _ c.add_last.result (λ n. sym (if_is a c.args.branches.now n))
    (keeps_both (λ n. others n ++ first n) last _ _ c.add_last.result
    (kept_both others first (rw c.as_slice.ensures at c.in_ok-add_others.ensures) c.in_ok-add_guarded.ensures)
    c.add_last.ensures)

pub add_others-loop-other-init : goal.add_others-loop-other-init
add_others-loop-other-init t c = record {
  scopes_are = refl;
  adding = adding_first (λ p. in_else_if (around_of c.args.outside.now) p (scopes_of c.args.scopes.now)) c.args.list.now.items c.args.others.now;
}

pub add_others-loop-other-preserved : goal.add_others-loop-other-preserved
add_others-loop-other-preserved t c =
    let a = around_of c.args.outside.now in
    let x = c.other-item.result in
    let inv = c.loop-other.invariant in
    let k = c.in_ok-add_guarded.ensures in
    let old = c.loop-other.list.items in
    record {
      scopes_are = k.scopes_are ∙ inv.scopes_are;
      adding = adding_next (λ p. in_else_if a p (scopes_of c.args.scopes.now)) c.args.list.now.items c.args.others.now c.loop-other.other-index x c.loop-other-test.true c.other-item.is old c.add_guarded.new.list.items
          (k.list_is ∙ ap (λ n. old ++ guarded a (out-ElseIf x).condition (in_stmt a (out-ElseIf x).body) n) inv.scopes_are ∙ ap (λ fs. old ++ fs) (sym (else_if_is a x (scopes_of c.args.scopes.now))))
          inv.adding;
    }

pub add_others-returns : goal.add_others-returns
add_others-returns t c = record {
  scopes_are = c.loop-other.invariant.scopes_are;
  list_is = adding_last (λ p. in_else_if (around_of c.args.outside.now) p (scopes_of c.args.scopes.now)) c.args.list.now.items c.args.others.now c.loop-other.other-index c.loop-other-test.false c.loop-other.list.items c.loop-other.invariant.adding;
}
