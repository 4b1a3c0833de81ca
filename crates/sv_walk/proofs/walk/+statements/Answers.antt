use Rattle.std.proofs.Common.{List, refl, sym, ap, ◌∙◌, subst, flat_map, ◌++◌}
use Rattle.dpi_rules.specs.declared.violation.Violation.{Violation}
use Rattle.dpi_rules.specs.Least.{noted}
use Rattle.sv_tree.specs.declared.statements.If.{out-If}
use Rattle.sv_names.specs.Names.{Names, names_of}
use Rattle.sv_names.specs.Scopes.{scopes_of}
use Rattle.sv_walk.specs.Around.{inside, env}
use Rattle.sv_walk.specs.Heads.{condition_violations, count_violations, compared, compared_violations}
use Rattle.sv_walk.specs.Plain.{return_violations, show_violations, call_violations}
use Rattle.sv_walk.specs.Changes.{change_violations}
use Rattle.sv_walk.specs.Walk as spec
use Rattle.sv_walk.proofs.Trees.{empty_is, of_block, of_if, case_is, while_is, repeat_is, forever_is, for_is, return_is, break_is, continue_is, disable_is, finish_is, show_is, shown_is, void_is, call_is, name_is, change_is, item_is, else_is, else_if_is, if_is}
use Rattle.sv_walk.proofs.Walking.{Walks, stays, then_leaves, then_walks, walking_first, walking_next, walking_last}
use Rattle.sv_walk.proofs.Entering.{block_says, for_says}
use Rattle.sv_walk.proofs.walk.+statements.Goals as goal

pub walk_statement-returns-in-Block : goal.walk_statement-returns-in-Block
walk_statement-returns-in-Block t c =
    let i = inside c.args.around.now (scopes_of c.args.scopes.now) in
    let is = ap (λ s. spec.in_stmt s i) c.in-Block.is ∙ of_block c.in-Block.block i in
    rw is (c.walk_block.ensures)

pub walk_statement-returns-in-If : goal.walk_statement-returns-in-If
walk_statement-returns-in-If t c =
    let i = inside c.args.around.now (scopes_of c.args.scopes.now) in
    let is = ap (λ s. spec.in_stmt s i) c.in-If.is ∙ of_if c.in-If.branches i in
    rw is (rw c.get.ensures at c.walk_if.ensures)

pub walk_statement-returns-in-Case : goal.walk_statement-returns-in-Case
walk_statement-returns-in-Case t c =
    let i = inside c.args.around.now (scopes_of c.args.scopes.now) in
    let is = ap (λ s. spec.in_stmt s i) c.in-Case.is ∙ case_is c.in-Case.token c.in-Case.e c.in-Case.items i in
    let s = scopes_of c.args.scopes.now in
    let s' = scopes_of c.walk_case.new.scopes in
    let walked : Walks c.walk_case.result s c.args.found.now (spec.case_violations c.in-Case.token c.in-Case.e c.in-Case.items i) s' c.walk_case.new.found =
    subst (λ xs. Walks c.walk_case.result s c.args.found.now (spec.case_violations c.in-Case.token c.in-Case.e xs i) s' c.walk_case.new.found) c.as_slice.ensures c.walk_case.ensures in
    subst (λ vs. Walks c.walk_case.result s c.args.found.now vs s' c.walk_case.new.found) (sym is) walked

pub walk_statement-returns-in-While : goal.walk_statement-returns-in-While
walk_statement-returns-in-While t c =
    let i = inside c.args.around.now (scopes_of c.args.scopes.now) in
    let is = ap (λ s. spec.in_stmt s i) c.in-While.is ∙ while_is c.in-While.field-0 c.in-While.e c.in-While.body i in
    rw is (rw c.get-in-While.ensures at c.walk_while.ensures)

pub walk_statement-returns-in-Repeat : goal.walk_statement-returns-in-Repeat
walk_statement-returns-in-Repeat t c =
    let i = inside c.args.around.now (scopes_of c.args.scopes.now) in
    let is = ap (λ s. spec.in_stmt s i) c.in-Repeat.is ∙ repeat_is c.in-Repeat.field-0 c.in-Repeat.e c.in-Repeat.body i in
    rw is (rw c.get-in-Repeat.ensures at c.walk_repeat.ensures)

pub walk_statement-returns-in-Forever : goal.walk_statement-returns-in-Forever
walk_statement-returns-in-Forever t c =
    let i = inside c.args.around.now (scopes_of c.args.scopes.now) in
    let is = ap (λ s. spec.in_stmt s i) c.in-Forever.is ∙ forever_is c.in-Forever.field-0 c.in-Forever.body i in
    rw is (rw c.get-in-Forever.ensures at c.walk_statement.ensures)

pub walk_statement-returns-in-For : goal.walk_statement-returns-in-For
walk_statement-returns-in-For t c =
    let i = inside c.args.around.now (scopes_of c.args.scopes.now) in
    let is = ap (λ s. spec.in_stmt s i) c.in-For.is ∙ for_is c.in-For.field-0 c.in-For.start c.in-For.e c.in-For.change c.in-For.body i in
    rw is (rw c.get-in-For.ensures at c.walk_for.ensures)

pub walk_statement-returns-in-Return : goal.walk_statement-returns-in-Return
walk_statement-returns-in-Return t c =
    let i = inside c.args.around.now (scopes_of c.args.scopes.now) in
    let is = ap (λ s. spec.in_stmt s i) c.in-Return.is ∙ return_is c.in-Return.field-0 c.in-Return.value i in
    rw is (stays c.walk_return.result (scopes_of c.args.scopes.now) c.args.found.now c.walk_return.new.found (return_violations (env i) c.args.around.now.result c.in-Return.value) c.walk_return.ensures)

pub walk_statement-returns-in-Disable : goal.walk_statement-returns-in-Disable
walk_statement-returns-in-Disable t c =
    let i = inside c.args.around.now (scopes_of c.args.scopes.now) in
    let is = ap (λ s. spec.in_stmt s i) c.in-Disable.is ∙ disable_is c.in-Disable.field-0 c.in-Disable.name i in
    rw is (refl, c.walk_disable.ensures)

pub walk_statement-returns-in-ShowActuals : goal.walk_statement-returns-in-ShowActuals
walk_statement-returns-in-ShowActuals t c =
    let i = inside c.args.around.now (scopes_of c.args.scopes.now) in
    let is = ap (λ s. spec.in_stmt s i) c.in-ShowActuals.is ∙ shown_is c.in-ShowActuals.field-0 c.in-ShowActuals.field-1 c.in-ShowActuals.field-2 c.in-ShowActuals.format i in
    rw is (stays c.walk_show.result (scopes_of c.args.scopes.now) c.args.found.now c.walk_show.new.found (show_violations (env i) c.in-ShowActuals.format) c.walk_show.ensures)

pub walk_statement-returns-in-Void : goal.walk_statement-returns-in-Void
walk_statement-returns-in-Void t c =
    let i = inside c.args.around.now (scopes_of c.args.scopes.now) in
    let is = ap (λ s. spec.in_stmt s i) c.in-Void.is ∙ void_is c.in-Void.field-0 c.in-Void.call i in
    rw is (stays c.walk_call.result (scopes_of c.args.scopes.now) c.args.found.now c.walk_call.new.found (call_violations (env i) c.in-Void.call) c.walk_call.ensures)

pub walk_statement-returns-in-Call : goal.walk_statement-returns-in-Call
walk_statement-returns-in-Call t c =
    let i = inside c.args.around.now (scopes_of c.args.scopes.now) in
    let is = ap (λ s. spec.in_stmt s i) c.in-Call.is ∙ call_is c.in-Call.call i in
    rw is (stays c.walk_call-in-Call.result (scopes_of c.args.scopes.now) c.args.found.now c.walk_call-in-Call.new.found (call_violations (env i) c.in-Call.call) c.walk_call-in-Call.ensures)

pub walk_statement-returns-in-Name : goal.walk_statement-returns-in-Name
walk_statement-returns-in-Name t c =
    let i = inside c.args.around.now (scopes_of c.args.scopes.now) in
    let is = ap (λ s. spec.in_stmt s i) c.in-Name.is ∙ name_is c.in-Name.name i in
    rw is (refl, c.walk_name.ensures)

pub walk_statement-returns-in-Change : goal.walk_statement-returns-in-Change
walk_statement-returns-in-Change t c =
    let i = inside c.args.around.now (scopes_of c.args.scopes.now) in
    let is = ap (λ s. spec.in_stmt s i) c.in-Change.is ∙ change_is c.in-Change.change i in
    rw is (stays c.walk_change.result (scopes_of c.args.scopes.now) c.args.found.now c.walk_change.new.found (change_violations (env i) c.in-Change.change) c.walk_change.ensures)

pub walk_statement-returns-in-Empty : goal.walk_statement-returns-in-Empty
walk_statement-returns-in-Empty t c =
    let i = inside c.args.around.now (scopes_of c.args.scopes.now) in
    let is = ap (λ s. spec.in_stmt s i) c.in-Empty.is ∙ empty_is c.in-Empty.field-0 i in
    (refl, ap (noted c.args.found.now) (sym is))

pub walk_statement-returns-in-Break : goal.walk_statement-returns-in-Break
walk_statement-returns-in-Break t c =
    let i = inside c.args.around.now (scopes_of c.args.scopes.now) in
    let is = ap (λ s. spec.in_stmt s i) c.in-Break.is ∙ break_is c.in-Break.field-0 i in
    (refl, ap (noted c.args.found.now) (sym is))

pub walk_statement-returns-in-Continue : goal.walk_statement-returns-in-Continue
walk_statement-returns-in-Continue t c =
    let i = inside c.args.around.now (scopes_of c.args.scopes.now) in
    let is = ap (λ s. spec.in_stmt s i) c.in-Continue.is ∙ continue_is c.in-Continue.field-0 i in
    (refl, ap (noted c.args.found.now) (sym is))

pub walk_statement-returns-in-Finish : goal.walk_statement-returns-in-Finish
walk_statement-returns-in-Finish t c =
    let i = inside c.args.around.now (scopes_of c.args.scopes.now) in
    let is = ap (λ s. spec.in_stmt s i) c.in-Finish.is ∙ finish_is c.in-Finish.field-0 c.in-Finish.field-1 i in
    (refl, ap (noted c.args.found.now) (sym is))

pub walk_statement-returns-in-Show : goal.walk_statement-returns-in-Show
walk_statement-returns-in-Show t c =
    let i = inside c.args.around.now (scopes_of c.args.scopes.now) in
    let is = ap (λ s. spec.in_stmt s i) c.in-Show.is ∙ show_is c.in-Show.field-0 c.in-Show.field-1 i in
    (refl, ap (noted c.args.found.now) (sym is))

pub walk_statements-loop-statement-init : goal.walk_statements-loop-statement-init
walk_statements-loop-statement-init t c = walking_first (λ y. spec.in_stmt y (inside c.args.around.now (scopes_of c.args.scopes.now))) (scopes_of c.args.scopes.now) c.args.found.now c.args.statements.now

pub walk_statements-loop-statement-preserved : goal.walk_statements-loop-statement-preserved
walk_statements-loop-statement-preserved t c =
    walking_next (λ y s. spec.in_stmt y (inside c.args.around.now s)) (scopes_of c.args.scopes.now) c.args.found.now c.args.statements.now c.loop-statement.statement-index c.statement-item.result c.loop-statement-test.true c.statement-item.is
    (scopes_of c.loop-statement.scopes) (scopes_of c.walk_statement.new.scopes) c.loop-statement.found c.walk_statement.new.found c.in_ok-walk_statement.ensures c.loop-statement.invariant

pub walk_case-loop-item-init : goal.walk_case-loop-item-init
walk_case-loop-item-init t c = walking_first (λ y. spec.in_item y (inside c.args.around.now (scopes_of c.args.scopes.now))) (scopes_of c.args.scopes.now) c.walk_compared.new.found c.args.items.now

pub walk_case-loop-item-preserved : goal.walk_case-loop-item-preserved
walk_case-loop-item-preserved t c =
    walking_next (λ y s. spec.in_item y (inside c.args.around.now s)) (scopes_of c.args.scopes.now) c.walk_compared.new.found c.args.items.now c.loop-item.item-index c.item-item.result c.loop-item-test.true c.item-item.is
    (scopes_of c.loop-item.scopes) (scopes_of c.walk_statement.new.scopes) c.loop-item.found c.walk_statement.new.found (
    let k = c.in_ok-walk_statement.ensures in (k.0, k.1 ∙ ap (noted c.loop-item.found) (sym (item_is c.item-item.result (inside c.args.around.now (scopes_of c.loop-item.scopes)))))) c.loop-item.invariant

pub walk_others-loop-other-init : goal.walk_others-loop-other-init
walk_others-loop-other-init t c = walking_first (λ y. spec.in_else_if y (inside c.args.around.now (scopes_of c.args.scopes.now))) (scopes_of c.args.scopes.now) c.args.found.now c.args.others.now

pub walk_others-loop-other-preserved : goal.walk_others-loop-other-preserved
walk_others-loop-other-preserved t c =
    walking_next (λ y s. spec.in_else_if y (inside c.args.around.now s)) (scopes_of c.args.scopes.now) c.args.found.now c.args.others.now c.loop-other.other-index c.other-item.result c.loop-other-test.true c.other-item.is
    (scopes_of c.loop-other.scopes) (scopes_of c.walk_while.new.scopes) c.loop-other.found c.walk_while.new.found (
    let k = c.in_ok-walk_while.ensures in (k.0, k.1 ∙ ap (noted c.loop-other.found) (sym (else_if_is c.other-item.result (inside c.args.around.now (scopes_of c.loop-other.scopes)))))) c.loop-other.invariant

pub walk_statements-returns : goal.walk_statements-returns
walk_statements-returns t c = walking_last (λ y. spec.in_stmt y (inside c.args.around.now (scopes_of c.args.scopes.now))) (scopes_of c.args.scopes.now) c.args.found.now c.args.statements.now c.loop-statement.statement-index c.loop-statement-test.false (scopes_of c.loop-statement.scopes) c.loop-statement.found c.loop-statement.invariant

pub walk_others-returns : goal.walk_others-returns
walk_others-returns t c = walking_last (λ y. spec.in_else_if y (inside c.args.around.now (scopes_of c.args.scopes.now))) (scopes_of c.args.scopes.now) c.args.found.now c.args.others.now c.loop-other.other-index c.loop-other-test.false (scopes_of c.loop-other.scopes) c.loop-other.found c.loop-other.invariant

pub walk_case-returns : goal.walk_case-returns
walk_case-returns t c =
    let s = scopes_of c.args.scopes.now in
    then_leaves s s (scopes_of c.loop-item.scopes) c.args.found.now c.walk_compared.new.found c.loop-item.found
    (compared_violations (env (inside c.args.around.now s)) c.args.token (compared c.args.e.now c.args.items.now)) (λ z. flat_map (λ y. spec.in_item y (inside c.args.around.now z)) c.args.items.now)
    (refl, c.in_ok-walk_compared.ensures)
    (walking_last (λ y. spec.in_item y (inside c.args.around.now (scopes_of c.args.scopes.now))) (scopes_of c.args.scopes.now) c.walk_compared.new.found c.args.items.now c.loop-item.item-index c.loop-item-test.false (scopes_of c.loop-item.scopes) c.loop-item.found c.loop-item.invariant)

pub walk_while-returns : goal.walk_while-returns
walk_while-returns t c =
    let s = scopes_of c.args.scopes.now in
    then_walks c.walk_statement.result s s (scopes_of c.walk_statement.new.scopes) c.args.found.now c.walk_condition.new.found c.walk_statement.new.found
    (condition_violations (env (inside c.args.around.now s)) c.args.condition.now) (λ z. spec.in_stmt c.args.body.now (inside c.args.around.now z)) (refl, c.in_ok-walk_condition.ensures) c.walk_statement.ensures

pub walk_repeat-returns : goal.walk_repeat-returns
walk_repeat-returns t c =
    let s = scopes_of c.args.scopes.now in
    then_walks c.walk_statement.result s s (scopes_of c.walk_statement.new.scopes) c.args.found.now c.walk_count.new.found c.walk_statement.new.found
    (count_violations (env (inside c.args.around.now s)) c.args.count.now) (λ z. spec.in_stmt c.args.body.now (inside c.args.around.now z)) (refl, c.in_ok-walk_count.ensures) c.walk_statement.ensures

pub walk_if-returns : goal.walk_if-returns
walk_if-returns t c =
    let s = scopes_of c.args.scopes.now in
    let f = out-If c.args.branches.now in
    let first = spec.while_violations f.condition f.body (inside c.args.around.now s) in
    let others : List Names → List Violation = λ z. flat_map (λ p. spec.in_else_if p (inside c.args.around.now z)) f.others in
    let middle = rw c.as_slice.ensures at c.in_ok-walk_others.ensures in
    rw (if_is c.args.branches.now (inside c.args.around.now s))
    (then_walks c.walk_last.result s (scopes_of c.walk_others.new.scopes) (scopes_of c.walk_last.new.scopes) c.args.found.now c.walk_others.new.found c.walk_last.new.found
    (first ++ others s) (λ z. spec.last_violations f.last (inside c.args.around.now z))
    (then_leaves s (scopes_of c.walk_while.new.scopes) (scopes_of c.walk_others.new.scopes) c.args.found.now c.walk_while.new.found c.walk_others.new.found first others c.in_ok-walk_while.ensures middle)
    c.walk_last.ensures)

pub walk_last-returns-in-Some : goal.walk_last-returns-in-Some
walk_last-returns-in-Some t c =
    let i = inside c.args.around.now (scopes_of c.args.scopes.now) in
    let is = ap (λ l. spec.last_violations l i) c.in-Some.is ∙ else_is c.in-Some.last i in
    rw is (rw c.get.ensures at c.walk_statement.ensures)

pub walk_block-returns : goal.walk_block-returns
walk_block-returns t c =
    block_says c.args.around.now c.args.block.now (scopes_of c.args.scopes.now) (scopes_of c.enter.new.self) (scopes_of c.walk_statements.new.scopes) (scopes_of c.leave.new.self) (names_of c.in_ok-scope.scope)
    c.args.found.now c.block_scope.new.found c.walk_all_variables.new.found c.walk_statements.new.found
    c.in_ok-scope.ensures c.in_ok-enter.ensures (rw c.as_slice-variables.ensures at c.in_ok-walk_all_variables.ensures) (rw c.as_slice.ensures at c.in_ok-walk_statements.ensures) c.leave.ensures

pub walk_for-returns : goal.walk_for-returns
walk_for-returns t c =
    for_says c.args.around.now c.args.start.now c.args.condition.now c.args.change.now c.args.body.now (scopes_of c.args.scopes.now) (scopes_of c.enter.new.self) (scopes_of c.walk_statement.new.scopes) (scopes_of c.leave.new.self) (names_of c.in_ok-scope.scope)
    c.args.found.now c.for_scope.new.found c.walk_head.new.found c.walk_statement.new.found
    c.in_ok-scope.ensures c.in_ok-enter.ensures c.in_ok-walk_head.ensures c.in_ok-walk_statement.ensures c.leave.ensures
