use Rattle.std.proofs.Common.{List, refl, sym, ap, ◌∙◌, subst, flat_map, ◌++◌}
use Rattle.std.proofs.lemmas.List.{append-nil}
use Rattle.sv_tree.specs.declared.statements.If.{out-If}
use Rattle.sv_tree.specs.declared.statements.CaseItem.{out-CaseItem}
use Rattle.sv_names.specs.Names.{Names, names_of}
use Rattle.sv_names.specs.Scopes.{scopes_of}
use Rattle.sv_walk.specs.Around.{inside, env}
use Rattle.sv_facts.specs.Facts.{called_facts}
use Rattle.sv_facts.specs.Exprs.{expr_facts, call_facts}
use Rattle.sv_meanings.specs.Places.{Facts, maybe_facts}
use Rattle.sv_meanings.specs.Changes.{change_facts}
use Rattle.sv_meanings.specs.Statements as spec
use Rattle.sv_meanings.proofs.Trees.{empty_is, of_block, of_if, case_is, while_is, repeat_is, forever_is, for_is, return_is, break_is, continue_is, disable_is, finish_is, show_is, shown_is, void_is, call_is, name_is, change_is, item_is, else_is, else_if_is, if_is}
use Rattle.sv_meanings.proofs.Walking.{Walks, stays, then_leaves, then_walks, walking_first, walking_next, walking_last}
use Rattle.sv_meanings.proofs.Entering.{block_says, for_says}
use Rattle.sv_meanings.proofs.statements.+statements.Goals as goal

pub add_stmt-returns-in-Block : goal.add_stmt-returns-in-Block
add_stmt-returns-in-Block t c =
    let i = inside c.args.around.now (scopes_of c.args.scopes.now) in
    let is = ap (λ s. spec.in_stmt s i) c.in-Block.is ∙ of_block c.in-Block.block i in
    rw is c.add_block.ensures

pub add_stmt-returns-in-If : goal.add_stmt-returns-in-If
add_stmt-returns-in-If t c =
    let i = inside c.args.around.now (scopes_of c.args.scopes.now) in
    let is = ap (λ s. spec.in_stmt s i) c.in-If.is ∙ of_if c.in-If.branches i in
    rw is (rw c.get.ensures at c.add_if.ensures)

pub add_stmt-returns-in-Case : goal.add_stmt-returns-in-Case
add_stmt-returns-in-Case t c =
    let i = inside c.args.around.now (scopes_of c.args.scopes.now) in
    let is = ap (λ s. spec.in_stmt s i) c.in-Case.is ∙ case_is c.in-Case.field-0 c.in-Case.e c.in-Case.items i in
    let s = scopes_of c.args.scopes.now in
    let s' = scopes_of c.add_case.new.scopes in
    let walked : Walks c.add_case.result s c.args.list.now.items (spec.in_case c.in-Case.e c.in-Case.items i) s' c.add_case.new.list.items =
    subst (λ xs. Walks c.add_case.result s c.args.list.now.items (spec.in_case c.in-Case.e xs i) s' c.add_case.new.list.items) c.as_slice.ensures c.add_case.ensures in
    subst (λ fs. Walks c.add_case.result s c.args.list.now.items fs s' c.add_case.new.list.items) (sym is) walked

pub add_stmt-returns-in-While : goal.add_stmt-returns-in-While
add_stmt-returns-in-While t c =
    let i = inside c.args.around.now (scopes_of c.args.scopes.now) in
    let is = ap (λ s. spec.in_stmt s i) c.in-While.is ∙ while_is c.in-While.field-0 c.in-While.e c.in-While.body i in
    rw is (rw c.get-in-While.ensures at c.add_guarded.ensures)

pub add_stmt-returns-in-Repeat : goal.add_stmt-returns-in-Repeat
add_stmt-returns-in-Repeat t c =
    let i = inside c.args.around.now (scopes_of c.args.scopes.now) in
    let is = ap (λ s. spec.in_stmt s i) c.in-Repeat.is ∙ repeat_is c.in-Repeat.field-0 c.in-Repeat.e c.in-Repeat.body i in
    rw is (rw c.get-in-Repeat.ensures at c.add_guarded-in-Repeat.ensures)

pub add_stmt-returns-in-Forever : goal.add_stmt-returns-in-Forever
add_stmt-returns-in-Forever t c =
    let i = inside c.args.around.now (scopes_of c.args.scopes.now) in
    let is = ap (λ s. spec.in_stmt s i) c.in-Forever.is ∙ forever_is c.in-Forever.field-0 c.in-Forever.body i in
    rw is (rw c.get-in-Forever.ensures at c.add_stmt.ensures)

pub add_stmt-returns-in-For : goal.add_stmt-returns-in-For
add_stmt-returns-in-For t c =
    let i = inside c.args.around.now (scopes_of c.args.scopes.now) in
    let is = ap (λ s. spec.in_stmt s i) c.in-For.is ∙ for_is c.in-For.field-0 c.in-For.start c.in-For.e c.in-For.change c.in-For.body i in
    rw is (rw c.get-in-For.ensures at c.add_for.ensures)

pub add_stmt-returns-in-Return : goal.add_stmt-returns-in-Return
add_stmt-returns-in-Return t c =
    let i = inside c.args.around.now (scopes_of c.args.scopes.now) in
    let is = ap (λ s. spec.in_stmt s i) c.in-Return.is ∙ return_is c.in-Return.field-0 c.in-Return.value i in
    rw is (stays c.add_maybe.result (scopes_of c.args.scopes.now) c.args.list.now.items c.add_maybe.new.list.items (maybe_facts (env i) c.in-Return.value) c.add_maybe.ensures)

pub add_stmt-returns-in-Disable : goal.add_stmt-returns-in-Disable
add_stmt-returns-in-Disable t c =
    let i = inside c.args.around.now (scopes_of c.args.scopes.now) in
    let is = ap (λ s. spec.in_stmt s i) c.in-Disable.is ∙ disable_is c.in-Disable.field-0 c.in-Disable.name i in
    rw is (stays c.add_target.result (scopes_of c.args.scopes.now) c.args.list.now.items c.add_target.new.list.items (called_facts (env i) c.in-Disable.name) c.add_target.ensures)

pub add_stmt-returns-in-ShowActuals : goal.add_stmt-returns-in-ShowActuals
add_stmt-returns-in-ShowActuals t c =
    let i = inside c.args.around.now (scopes_of c.args.scopes.now) in
    let is = ap (λ s. spec.in_stmt s i) c.in-ShowActuals.is ∙ shown_is c.in-ShowActuals.field-0 c.in-ShowActuals.field-1 c.in-ShowActuals.field-2 c.in-ShowActuals.format i in
    rw is (stays c.add_show.result (scopes_of c.args.scopes.now) c.args.list.now.items c.add_show.new.list.items (spec.show_facts (env i) c.in-ShowActuals.format) c.add_show.ensures)

pub add_stmt-returns-in-Void : goal.add_stmt-returns-in-Void
add_stmt-returns-in-Void t c =
    let i = inside c.args.around.now (scopes_of c.args.scopes.now) in
    let is = ap (λ s. spec.in_stmt s i) c.in-Void.is ∙ void_is c.in-Void.field-0 c.in-Void.call i in
    rw is (stays c.add_call.result (scopes_of c.args.scopes.now) c.args.list.now.items c.add_call.new.list.items (call_facts (env i) c.in-Void.call) c.add_call.ensures)

pub add_stmt-returns-in-Call : goal.add_stmt-returns-in-Call
add_stmt-returns-in-Call t c =
    let i = inside c.args.around.now (scopes_of c.args.scopes.now) in
    let is = ap (λ s. spec.in_stmt s i) c.in-Call.is ∙ call_is c.in-Call.call i in
    rw is (stays c.add_call-in-Call.result (scopes_of c.args.scopes.now) c.args.list.now.items c.add_call-in-Call.new.list.items (call_facts (env i) c.in-Call.call) c.add_call-in-Call.ensures)

pub add_stmt-returns-in-Name : goal.add_stmt-returns-in-Name
add_stmt-returns-in-Name t c =
    let i = inside c.args.around.now (scopes_of c.args.scopes.now) in
    let is = ap (λ s. spec.in_stmt s i) c.in-Name.is ∙ name_is c.in-Name.name i in
    rw is (stays c.add_target-in-Name.result (scopes_of c.args.scopes.now) c.args.list.now.items c.add_target-in-Name.new.list.items (called_facts (env i) c.in-Name.name) c.add_target-in-Name.ensures)

pub add_stmt-returns-in-Change : goal.add_stmt-returns-in-Change
add_stmt-returns-in-Change t c =
    let i = inside c.args.around.now (scopes_of c.args.scopes.now) in
    let is = ap (λ s. spec.in_stmt s i) c.in-Change.is ∙ change_is c.in-Change.change i in
    rw is (stays c.add_change.result (scopes_of c.args.scopes.now) c.args.list.now.items c.add_change.new.list.items (change_facts (env i) c.in-Change.change) c.add_change.ensures)

pub add_stmt-returns-in-Empty : goal.add_stmt-returns-in-Empty
add_stmt-returns-in-Empty t c =
    let i = inside c.args.around.now (scopes_of c.args.scopes.now) in
    let is = ap (λ s. spec.in_stmt s i) c.in-Empty.is ∙ empty_is c.in-Empty.field-0 i in
    (refl, sym (ap (λ fs. c.args.list.now.items ++ fs) is ∙ append-nil c.args.list.now.items))

pub add_stmt-returns-in-Break : goal.add_stmt-returns-in-Break
add_stmt-returns-in-Break t c =
    let i = inside c.args.around.now (scopes_of c.args.scopes.now) in
    let is = ap (λ s. spec.in_stmt s i) c.in-Break.is ∙ break_is c.in-Break.field-0 i in
    (refl, sym (ap (λ fs. c.args.list.now.items ++ fs) is ∙ append-nil c.args.list.now.items))

pub add_stmt-returns-in-Continue : goal.add_stmt-returns-in-Continue
add_stmt-returns-in-Continue t c =
    let i = inside c.args.around.now (scopes_of c.args.scopes.now) in
    let is = ap (λ s. spec.in_stmt s i) c.in-Continue.is ∙ continue_is c.in-Continue.field-0 i in
    (refl, sym (ap (λ fs. c.args.list.now.items ++ fs) is ∙ append-nil c.args.list.now.items))

pub add_stmt-returns-in-Finish : goal.add_stmt-returns-in-Finish
add_stmt-returns-in-Finish t c =
    let i = inside c.args.around.now (scopes_of c.args.scopes.now) in
    let is = ap (λ s. spec.in_stmt s i) c.in-Finish.is ∙ finish_is c.in-Finish.field-0 c.in-Finish.field-1 i in
    (refl, sym (ap (λ fs. c.args.list.now.items ++ fs) is ∙ append-nil c.args.list.now.items))

pub add_stmt-returns-in-Show : goal.add_stmt-returns-in-Show
add_stmt-returns-in-Show t c =
    let i = inside c.args.around.now (scopes_of c.args.scopes.now) in
    let is = ap (λ s. spec.in_stmt s i) c.in-Show.is ∙ show_is c.in-Show.field-0 c.in-Show.field-1 i in
    (refl, sym (ap (λ fs. c.args.list.now.items ++ fs) is ∙ append-nil c.args.list.now.items))

pub add_stmts-loop-stmt-init : goal.add_stmts-loop-stmt-init
add_stmts-loop-stmt-init t c = walking_first (λ y. spec.in_stmt y (inside c.args.around.now (scopes_of c.args.scopes.now))) (scopes_of c.args.scopes.now) c.args.list.now.items c.args.stmts.now

pub add_stmts-loop-stmt-preserved : goal.add_stmts-loop-stmt-preserved
add_stmts-loop-stmt-preserved t c =
    walking_next (λ y s. spec.in_stmt y (inside c.args.around.now s)) (scopes_of c.args.scopes.now) c.args.list.now.items c.args.stmts.now c.loop-stmt.stmt-index c.stmt-item.result c.loop-stmt-test.true c.stmt-item.is
    (scopes_of c.loop-stmt.scopes) (scopes_of c.add_stmt.new.scopes) c.loop-stmt.list.items c.add_stmt.new.list.items c.in_ok-add_stmt.ensures c.loop-stmt.invariant

pub add_stmts-returns : goal.add_stmts-returns
add_stmts-returns t c =
    walking_last (λ y. spec.in_stmt y (inside c.args.around.now (scopes_of c.args.scopes.now))) (scopes_of c.args.scopes.now) c.args.list.now.items c.args.stmts.now c.loop-stmt.stmt-index c.loop-stmt-test.false (scopes_of c.loop-stmt.scopes) c.loop-stmt.list.items c.loop-stmt.invariant

pub add_items-loop-item-init : goal.add_items-loop-item-init
add_items-loop-item-init t c = walking_first (λ y. spec.in_item y (inside c.args.around.now (scopes_of c.args.scopes.now))) (scopes_of c.args.scopes.now) c.args.list.now.items c.args.items.now

pub add_items-loop-item-preserved : goal.add_items-loop-item-preserved
add_items-loop-item-preserved t c =
    walking_next (λ y s. spec.in_item y (inside c.args.around.now s)) (scopes_of c.args.scopes.now) c.args.list.now.items c.args.items.now c.loop-item.item-index c.item-item.result c.loop-item-test.true c.item-item.is
    (scopes_of c.loop-item.scopes) (scopes_of c.add_item.new.scopes) c.loop-item.list.items c.add_item.new.list.items c.in_ok-add_item.ensures c.loop-item.invariant

pub add_items-returns : goal.add_items-returns
add_items-returns t c =
    walking_last (λ y. spec.in_item y (inside c.args.around.now (scopes_of c.args.scopes.now))) (scopes_of c.args.scopes.now) c.args.list.now.items c.args.items.now c.loop-item.item-index c.loop-item-test.false (scopes_of c.loop-item.scopes) c.loop-item.list.items c.loop-item.invariant

pub add_others-loop-other-init : goal.add_others-loop-other-init
add_others-loop-other-init t c = walking_first (λ y. spec.in_else_if y (inside c.args.around.now (scopes_of c.args.scopes.now))) (scopes_of c.args.scopes.now) c.args.list.now.items c.args.others.now

pub add_others-loop-other-preserved : goal.add_others-loop-other-preserved
add_others-loop-other-preserved t c =
    walking_next (λ y s. spec.in_else_if y (inside c.args.around.now s)) (scopes_of c.args.scopes.now) c.args.list.now.items c.args.others.now c.loop-other.other-index c.other-item.result c.loop-other-test.true c.other-item.is
    (scopes_of c.loop-other.scopes) (scopes_of c.add_guarded.new.scopes) c.loop-other.list.items c.add_guarded.new.list.items (
    let k = c.in_ok-add_guarded.ensures in (k.0, k.1 ∙ ap (λ fs. c.loop-other.list.items ++ fs) (sym (else_if_is c.other-item.result (inside c.args.around.now (scopes_of c.loop-other.scopes)))))) c.loop-other.invariant

pub add_others-returns : goal.add_others-returns
add_others-returns t c =
    walking_last (λ y. spec.in_else_if y (inside c.args.around.now (scopes_of c.args.scopes.now))) (scopes_of c.args.scopes.now) c.args.list.now.items c.args.others.now c.loop-other.other-index c.loop-other-test.false (scopes_of c.loop-other.scopes) c.loop-other.list.items c.loop-other.invariant

pub add_case-returns : goal.add_case-returns
add_case-returns t c =
    let s = scopes_of c.args.scopes.now in
    then_walks c.add_items.result s s (scopes_of c.add_items.new.scopes) c.args.list.now.items c.add_value.new.list.items c.add_items.new.list.items
    (expr_facts (env (inside c.args.around.now s)) c.args.e.now) (λ z. flat_map (λ y. spec.in_item y (inside c.args.around.now z)) c.args.items.now) (refl, c.in_ok-add_value.ensures) c.add_items.ensures

pub add_item-returns : goal.add_item-returns
add_item-returns t c =
    let s = scopes_of c.args.scopes.now in
    let x = out-CaseItem c.args.item.now in
    rw (item_is c.args.item.now (inside c.args.around.now s))
    (then_walks c.add_stmt.result s s (scopes_of c.add_stmt.new.scopes) c.args.list.now.items c.add_item_values.new.list.items c.add_stmt.new.list.items
    (spec.values_facts (env (inside c.args.around.now s)) x.values) (λ z. spec.in_stmt x.body (inside c.args.around.now z)) (refl, c.in_ok-add_item_values.ensures) c.add_stmt.ensures)

pub add_guarded-returns : goal.add_guarded-returns
add_guarded-returns t c =
    let s = scopes_of c.args.scopes.now in
    then_walks c.add_stmt.result s s (scopes_of c.add_stmt.new.scopes) c.args.list.now.items c.add_value.new.list.items c.add_stmt.new.list.items
    (expr_facts (env (inside c.args.around.now s)) c.args.e.now) (λ z. spec.in_stmt c.args.body.now (inside c.args.around.now z)) (refl, c.in_ok-add_value.ensures) c.add_stmt.ensures

pub add_if-returns : goal.add_if-returns
add_if-returns t c =
    let s = scopes_of c.args.scopes.now in
    let f = out-If c.args.branches.now in
    let first = spec.in_guarded f.condition f.body (inside c.args.around.now s) in
    let others : List Names → Facts = λ z. flat_map (λ p. spec.in_else_if p (inside c.args.around.now z)) f.others in
    let middle = rw c.as_slice.ensures at c.in_ok-add_others.ensures in
    rw (if_is c.args.branches.now (inside c.args.around.now s))
    (then_walks c.add_last.result s (scopes_of c.add_others.new.scopes) (scopes_of c.add_last.new.scopes) c.args.list.now.items c.add_others.new.list.items c.add_last.new.list.items
    (first ++ others s) (λ z. spec.in_last f.last (inside c.args.around.now z))
    (then_leaves s (scopes_of c.add_guarded.new.scopes) (scopes_of c.add_others.new.scopes) c.args.list.now.items c.add_guarded.new.list.items c.add_others.new.list.items first others c.in_ok-add_guarded.ensures middle)
    c.add_last.ensures)

pub add_last-returns-in-Some : goal.add_last-returns-in-Some
add_last-returns-in-Some t c =
    let i = inside c.args.around.now (scopes_of c.args.scopes.now) in
    let is = ap (λ l. spec.in_last l i) c.in-Some.is ∙ else_is c.in-Some.last i in
    rw is (rw c.get.ensures at c.add_stmt.ensures)

pub add_block-returns : goal.add_block-returns
add_block-returns t c =
    block_says c.args.around.now c.args.block.now (scopes_of c.args.scopes.now) (scopes_of c.enter.new.self) (scopes_of c.add_stmts.new.scopes) (scopes_of c.leave.new.self) (names_of c.in_ok-scope.scope)
    c.args.list.now.items c.add_label.new.list.items c.add_all_variables.new.list.items c.add_stmts.new.list.items
    c.in_ok-add_label.ensures c.in_ok-scope.ensures.names_are c.in_ok-enter.ensures (rw c.as_slice.ensures at c.in_ok-add_all_variables.ensures) (rw c.as_slice-2.ensures at c.in_ok-add_stmts.ensures) c.leave.ensures

pub add_for-returns : goal.add_for-returns
add_for-returns t c =
    for_says c.args.around.now c.args.start.now c.args.condition.now c.args.change.now c.args.body.now (scopes_of c.args.scopes.now) (scopes_of c.enter.new.self) (scopes_of c.add_stmt.new.scopes) (scopes_of c.leave.new.self) (names_of c.in_ok-scope.scope)
    c.args.list.now.items c.add_head.new.list.items c.add_stmt.new.list.items
    c.in_ok-scope.ensures.names_are c.in_ok-enter.ensures c.in_ok-add_head.ensures c.in_ok-add_stmt.ensures c.leave.ensures
