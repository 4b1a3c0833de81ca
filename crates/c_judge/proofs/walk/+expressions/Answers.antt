use Rattle.std.proofs.Common.{sym, ap, ◌∙◌}
use Rattle.std.specs.Prelude.{option_map}
use Rattle.std.proofs.lemmas.Result.{IfOk-weaker}
use Rattle.c_tree.specs.declared.expr.Term.{out-Term}
use Rattle.c_typing.specs.declared.chain.Sign.{Sign}
use Rattle.c_typing.specs.Binary.{typed}
use Rattle.c_judge.specs.Calls.{env_of, if_clean}
use Rattle.c_judge.specs.Judge as spec
use Rattle.c_judge.proofs.Trees.{term_is, index_is}
use Rattle.c_judge.proofs.Readings.{links, reading_next}
use Rattle.c_judge.proofs.Loops.{passing_next, siding_next, side_of, suffixing_next}
use Rattle.c_judge.proofs.Steps.{expr_says, cond_says, choice_says, chain_says, operand_says, index_says, value_says, call_says}
use Rattle.c_judge.proofs.walk.+expressions.Goals as goal

pub arguments-loop-number-preserved : goal.arguments-loop-number-preserved
arguments-loop-number-preserved t c =
    passing_next (env_of c.args.around.now) c.args.callee c.args.found.now c.args.es.now c.loop-number.number c.index-es-number.result c.loop-number-test.true c.index-es-number.is
    c.parameter-to.result c.in_ok-judge_value.field-0 c.loop-number.values.items c.push.new.self.items c.loop-number.found c.judge_value.new.found c.parameter-to.ensures
    c.in_ok-judge_value.ensures c.in_ok-push.ensures.items c.loop-number.invariant

pub behind-returns-in-Some : goal.behind-returns-in-Some
behind-returns-in-Some t c =
    let env = env_of c.args.around.now in
    let is = ap (option_map (spec.choice env)) c.in-Some.is in
    rw is (rw c.get.ensures at c.choice.ensures)

pub call-returns : goal.call-returns
call-returns t c =
    let env = env_of c.args.around.now in
    call_says env c.args.name.now c.args.es.now c.callee_of-callee.result c.in_ok-values.values.items c.args.found.now c.callee_of-callee.new.found c.arguments.new.found c.note_callee.new.found c.join.new.found
    c.unless_found.result c.callee_of-callee.ensures.callee c.callee_of-callee.ensures.found c.in_ok-values.ensures
    (rw c.deref.ensures.value at c.in_ok-note_callee.ensures) c.join.ensures
    (λ vs h. c.unless_found.ensures vs h ∙ ap (if_clean vs) (rw c.deref-2.ensures.value at c.call_value.ensures))

pub chain-returns : goal.chain-returns
chain-returns t c =
    chain_says (env_of c.args.around.now) c.args.chain.now c.args.found.now c.join.new.found c.in_ok-first.first c.in_ok-whole.whole c.in_ok-first.ensures
    (rw c.as_slice.ensures at c.in_ok-whole.ensures) c.join.ensures

pub choice-returns : goal.choice-returns
choice-returns t c =
    choice_says (env_of c.args.around.now) c.args.branches.now c.args.place c.at-sign.result c.args.condition c.args.found.now c.judge_expr.new.found c.cond.new.found c.choice.new.found
    c.in_ok-yes.yes c.in_ok-no.no c.choice.result c.in_ok-yes.ensures c.in_ok-no.ensures c.at-sign.ensures c.choice.ensures.value c.choice.ensures.found

pub cond-returns : goal.cond-returns
cond-returns t c =
    IfOk-weaker c.behind.result _ _
    (λ o h. cond_says (env_of c.args.around.now) c.args.cond.now c.at-place.result c.args.found.now c.chain.new.found c.behind.new.found c.in_ok-condition.condition o c.in_ok-condition.ensures c.at-place.ensures h)
    c.behind.ensures

pub judge_expr-returns : goal.judge_expr-returns
judge_expr-returns t c =
    expr_says (env_of c.args.around.now) c.args.e.now c.args.found.now c.cond.new.found c.sides.new.found c.grouped.new.found c.in_ok-first.first c.grouped.result c.in_ok-sides.sides.items c.in_ok-first.ensures
    (rw c.as_slice.ensures at c.in_ok-sides.ensures)
    (rw c.deref.ensures.value at c.grouped.ensures.value) (rw c.deref.ensures.value at c.grouped.ensures.found)

pub judge_value-returns : goal.judge_value-returns
judge_value-returns t c =
    value_says (env_of c.args.around.now) c.args.e.now c.at.result c.args.to c.args.found.now c.judge_expr.new.found c.note_conversion.new.found c.in_ok-value.value c.in_ok-value.ensures c.at.ensures c.note_conversion.ensures

pub operand-returns : goal.operand-returns
operand-returns t c =
    operand_says (env_of c.args.around.now) c.args.tree.now c.args.found.now c.primary.new.found c.suffixed.new.found c.all_prefixed.new.found c.in_ok-first.first c.in_ok-inner.inner c.all_prefixed.result c.in_ok-first.ensures
    (rw c.as_slice.ensures at c.in_ok-inner.ensures)
    (rw c.as_slice-prefixes.ensures at c.all_prefixed.ensures.value) (rw c.as_slice-prefixes.ensures at c.all_prefixed.ensures.found)

pub sides-loop-part-preserved : goal.sides-loop-part-preserved
sides-loop-part-preserved t c =
    let env = env_of c.args.around.now in
    siding_next env c.args.found.now c.args.rest.now c.loop-part.part-index c.part-item.result c.loop-part-test.true c.part-item.is
    _ c.loop-part.sides.items c.push.new.self.items c.loop-part.found c.cond.new.found (side_of env c.part-item.result c.in_ok-value.value c.in_ok-value.ensures.0)
    c.in_ok-value.ensures.1 c.in_ok-push.ensures.items c.loop-part.invariant

pub suffix-returns-in_ok-inner-in-Index : goal.suffix-returns-in_ok-inner-in-Index
suffix-returns-in_ok-inner-in-Index t c =
    let env = env_of c.args.around.now in
    let is = ap (λ s. spec.suffix env s c.args.operand) c.in-Index.is ∙ index_is env c.in-Index.token c.in-Index.e c.args.operand in
    rw is (index_says env c.at.result c.in-Index.token c.in-Index.e c.args.operand c.args.found.now c.judge_expr.new.found c.index.new.found c.in_ok-inner-in-Index.inner c.index.result
    (rw c.get.ensures at c.in_ok-inner-in-Index.ensures) c.at.ensures c.index.ensures.value c.index.ensures.found)

pub suffixed-loop-part-preserved : goal.suffixed-loop-part-preserved
suffixed-loop-part-preserved t c =
    suffixing_next (env_of c.args.around.now) c.args.first c.args.found.now c.args.suffixes.now c.loop-part.part-index c.part-item.result c.loop-part-test.true c.part-item.is
    c.loop-part.operand c.in_ok-operand.operand c.loop-part.found c.suffix.new.found c.in_ok-operand.ensures c.loop-part.invariant

pub terms-loop-term-preserved : goal.terms-loop-term-preserved
terms-loop-term-preserved t c =
    let env = env_of c.args.around.now in
    let x = c.term-item.result in
    let sign = ap (λ p. let s : Sign = record { place = p; operator = (out-Term x).operator } in s) c.at.ensures ∙ sym (ap (λ (k : spec.Links). k.operator) (term_is env x)) in
    let right = c.in_ok-right.ensures ∙ sym (ap (λ (k : spec.Links). typed k.operand) (term_is env x)) in
    reading_next env c.args.first (links env c.args.rest.now) c.args.rest.now c.loop-term.term-index c.term-item.result c.loop-term-test.true c.term-item.is
    c.loop-term.reading c.in_ok-reading.reading _ c.in_ok-right.right sign right
    (λ tree h. c.in_ok-reading.ensures tree h) c.loop-term.invariant
