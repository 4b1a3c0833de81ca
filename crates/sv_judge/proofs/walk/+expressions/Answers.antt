use Rattle.std.proofs.Common.{ap, sym, ◌∙◌, refl, map, Some, true, false}
use Rattle.std.proofs.lemmas.Result.{IfOk-weaker}
use Rattle.sv_tree.specs.declared.expr.Chain.{out-Chain}
use Rattle.sv_typing.specs.Concatenations.{count_of}
use Rattle.sv_judge.specs.Forms as forms
use Rattle.sv_judge.specs.Judge as spec
use Rattle.sv_judge.specs.Calls.{env_of, if_clean, call_value}
use Rattle.sv_judge.proofs.Trees.{term_is, concatenation_is, repetition_is, signed_is, unsigned_is, index_is, slice_is}
use Rattle.sv_judge.proofs.Readings.{links, reading_first, reading_next, reading_last}
use Rattle.sv_judge.proofs.Loops.{selecting_first, selecting_next, selecting_last, passing_next, joints, joining_next}
use Rattle.sv_judge.proofs.Steps.{cast_says, repeated_says, index_narrows, slice_narrows, expr_says, choice_says, chain_says, call_says, operand_says, none_mapped}
use Rattle.sv_judge.proofs.walk.+expressions.Goals as goal

pub actuals-loop-number-preserved : goal.actuals-loop-number-preserved
actuals-loop-number-preserved t c =
    passing_next (env_of c.args.place.now) c.args.callee c.args.found.now c.args.es.now c.loop-number.number c.index-es-number.result c.loop-number-test.true c.index-es-number.is
    c.in_ok-whole.whole c.passing_at-passing.result c.loop-number.found c.judge_expr.new.found c.note_passed.new.found c.in_ok-whole.ensures c.passing_at-passing.ensures c.note_passed.ensures c.loop-number.invariant

pub parts-loop-e-preserved : goal.parts-loop-e-preserved
parts-loop-e-preserved t c =
    joining_next (env_of c.args.place.now) c.args.found.now c.args.es.now c.loop-e.e-index c.e-item.result c.loop-e-test.true c.e-item.is
    c.in_ok-whole.whole c.joint.result c.loop-e.joints.items c.push.new.self.items c.loop-e.found c.judge_expr.new.found c.in_ok-whole.ensures c.joint.ensures c.in_ok-push.ensures.items c.loop-e.invariant

pub selected_by-loop-part-init : goal.selected_by-loop-part-init
selected_by-loop-part-init t c = selecting_first (env_of c.args.place.now) c.args.before c.args.found.now c.args.selects.now

pub selected_by-loop-part-preserved : goal.selected_by-loop-part-preserved
selected_by-loop-part-preserved t c =
    selecting_next (env_of c.args.place.now) c.args.before c.args.found.now c.args.selects.now c.loop-part.part-index c.part-item.result c.loop-part-test.true c.part-item.is
    c.loop-part.selected c.in_ok-selected.selected c.loop-part.found c.select.new.found c.in_ok-selected.ensures c.loop-part.invariant

pub selected_by-returns : goal.selected_by-returns
selected_by-returns t c =
    selecting_last (env_of c.args.place.now) c.args.before c.args.found.now c.args.selects.now c.loop-part.part-index c.loop-part-test.false c.loop-part.selected c.loop-part.found c.loop-part.invariant

pub terms-loop-term-init : goal.terms-loop-term-init
terms-loop-term-init t c = reading_first (env_of c.args.place.now) c.args.first c.args.rest.now c.new-reading.result c.new-reading.ensures

pub terms-loop-term-preserved : goal.terms-loop-term-preserved
terms-loop-term-preserved t c =
    let env = env_of c.args.place.now in
    reading_next env c.args.first (links env c.args.rest.now) c.args.rest.now c.loop-term.term-index c.term-item.result c.loop-term-test.true c.term-item.is
    c.loop-term.reading c.in_ok-reading.reading _ c.in_ok-right.right (sym (ap (λ (k : spec.Links). k.operator) (term_is env c.term-item.result))) c.in_ok-right.ensures
    (λ tree h. c.in_ok-reading.ensures tree h) c.loop-term.invariant

pub terms-returns : goal.terms-returns
terms-returns t c =
    let env = env_of c.args.place.now in
    let l = c.loop-term.invariant in
    IfOk-weaker c.value.result _ _
    (λ p h. reading_last env c.args.first (links env c.args.rest.now) c.args.rest.now c.loop-term.term-index c.loop-term-test.false c.loop-term.reading p l h)
    (c.value.ensures l.tree l.reads)

pub judge_expr-returns : goal.judge_expr-returns
judge_expr-returns t c =
    IfOk-weaker c.behind.result _ _
    (λ w h. expr_says (env_of c.args.place.now) c.args.e.now c.args.found.now c.chain.new.found c.behind.new.found c.in_ok-condition.condition w c.in_ok-condition.ensures h)
    c.behind.ensures

pub choice-returns : goal.choice-returns
choice-returns t c =
    choice_says (env_of c.args.place.now) c.args.branches.now c.args.condition c.args.found.now c.judge_expr.new.found c.judge_expr-2.new.found c.conditional-value.new.found
    c.in_ok-yes.yes c.in_ok-no.no c.other.result c.conditional-value.result c.in_ok-yes.ensures c.in_ok-no.ensures c.other.ensures c.conditional-value.ensures.value c.conditional-value.ensures.found

pub chain-returns : goal.chain-returns
chain-returns t c =
    let env = env_of c.args.place.now in
    chain_says env c.args.chain.now c.args.found.now c.operand.new.found c.join.new.found c.in_ok-first.first _ c.in_ok-part.part c.chain_form.result c.in_ok-first.ensures
    (rw c.as_slice.ensures at c.in_ok-part.ensures)
    c.join.ensures
    (c.chain_form.ensures ∙ ap (forms.chain_form c.in_ok-first.first.form) (c.is_none.ensures ∙ ap spec.is_none_left c.as_slice-2.ensures ∙ none_mapped env (out-Chain c.args.chain.now).rest))
    refl

pub operand-returns : goal.operand-returns
operand-returns t c =
    operand_says (env_of c.args.place.now) c.args.operand.now c.args.found.now c.primary.new.found c.with_prefixes.new.found c.in_ok-whole.whole c.with_prefixes.result c.in_ok-whole.ensures
    (rw c.as_slice-prefixes.ensures at c.with_prefixes.ensures.whole) (rw c.as_slice-prefixes.ensures at c.with_prefixes.ensures.found)

pub primary-returns-in_ok-joints-in-Concatenation : goal.primary-returns-in_ok-joints-in-Concatenation
primary-returns-in_ok-joints-in-Concatenation t c =
    let env = env_of c.args.place.now in
    let is = ap (spec.primary env) c.in-Concatenation.is ∙ concatenation_is env c.in-Concatenation.token c.in-Concatenation.es in
    rw is (repeated_says env.file c.in-Concatenation.token (Some 1) (spec.parts_found (map (spec.actual env) c.in-Concatenation.es)) (joints env c.in-Concatenation.es) c.deref.result.now c.args.found.now c.parts.new.found c.concatenated.new.found c.other-in-Concatenation.result c.concatenated.result
    (rw c.deref.ensures.value (rw c.as_slice-in-Concatenation.ensures at c.in_ok-joints-in-Concatenation.ensures)) c.other-in-Concatenation.ensures c.concatenated.ensures.value c.concatenated.ensures.found)

pub primary-returns-in_ok-joints-in-Repetition : goal.primary-returns-in_ok-joints-in-Repetition
primary-returns-in_ok-joints-in-Repetition t c =
    let env = env_of c.args.place.now in
    let is = ap (spec.primary env) c.in-Repetition.is ∙ repetition_is env c.in-Repetition.token c.in-Repetition.number c.in-Repetition.es in
    let count = rw c.as_slice-in-Repetition.ensures at c.in_ok-count-in-Repetition.ensures in
    rw is (repeated_says env.file c.in-Repetition.token (count_of c.in-Repetition.number.bytes) (spec.parts_found (map (spec.actual env) c.in-Repetition.es)) (joints env c.in-Repetition.es) c.deref-in-Repetition.result.now c.args.found.now c.parts-in-Repetition.new.found c.repeated.new.found c.other-in-Repetition.result c.repeated.result
    (rw c.deref-in-Repetition.ensures.value (rw c.as_slice-in-Repetition-2.ensures at c.in_ok-joints-in-Repetition.ensures)) c.other-in-Repetition.ensures (rw count at c.repeated.ensures.value) (rw count at c.repeated.ensures.found))

pub primary-returns-in_ok-whole-in-Signed : goal.primary-returns-in_ok-whole-in-Signed
primary-returns-in_ok-whole-in-Signed t c =
    let env = env_of c.args.place.now in
    let is = ap (spec.primary env) c.in-Signed.is ∙ signed_is env c.in-Signed.token c.in-Signed.e in
    rw is (cast_says env.file c.in-Signed.token true (spec.judge env c.in-Signed.e) c.args.found.now c.judge_expr-in-Signed.new.found c.cast.new.found c.in_ok-whole-in-Signed.whole c.other-in-Signed.result c.cast.result
    (rw c.get-in-Signed.ensures at c.in_ok-whole-in-Signed.ensures) c.other-in-Signed.ensures c.cast.ensures.value c.cast.ensures.found)

pub primary-returns-in_ok-whole-in-Unsigned : goal.primary-returns-in_ok-whole-in-Unsigned
primary-returns-in_ok-whole-in-Unsigned t c =
    let env = env_of c.args.place.now in
    let is = ap (spec.primary env) c.in-Unsigned.is ∙ unsigned_is env c.in-Unsigned.token c.in-Unsigned.e in
    rw is (cast_says env.file c.in-Unsigned.token false (spec.judge env c.in-Unsigned.e) c.args.found.now c.judge_expr-in-Unsigned.new.found c.cast-in-Unsigned.new.found c.in_ok-whole-in-Unsigned.whole
    c.other-in-Unsigned.result c.cast-in-Unsigned.result (rw c.get-in-Unsigned.ensures at c.in_ok-whole-in-Unsigned.ensures) c.other-in-Unsigned.ensures c.cast-in-Unsigned.ensures.value c.cast-in-Unsigned.ensures.found)

pub select-returns-in_ok-index-in-Index : goal.select-returns-in_ok-index-in-Index
select-returns-in_ok-index-in-Index t c =
    let env = env_of c.args.place.now in
    let is = ap (λ s. spec.select env s c.args.selected) c.in-Index.is ∙ index_is env c.in-Index.token c.in-Index.e c.args.selected in
    rw is (index_narrows env.file c.in-Index.token c.args.selected (spec.judge env c.in-Index.e) c.args.found.now c.judge_expr.new.found c.select_index.new.found c.in_ok-index-in-Index.index c.select_index.result
    (rw c.get.ensures at c.in_ok-index-in-Index.ensures) c.select_index.ensures.value c.select_index.ensures.found)

pub select-returns-in_ok-size-in-Up : goal.select-returns-in_ok-size-in-Up
select-returns-in_ok-size-in-Up t c =
    let env = env_of c.args.place.now in
    let is = slice_is env c.args.select.now c.in-Up.token c.in-Up.e c.in-Up.number c.args.selected c.in-Up.is in
    rw is (slice_narrows env.file c.in-Up.token c.args.selected c.in_ok-size-in-Up.size _ (spec.judge env c.in-Up.e) c.args.found.now c.judge_expr-in-Up.new.found c.select_bits.new.found c.in_ok-index-in-Up.index c.select_bits.result
    (rw c.get-in-Up.ensures at c.in_ok-index-in-Up.ensures) (rw c.as_slice.ensures at c.in_ok-size-in-Up.ensures) c.select_bits.ensures.value c.select_bits.ensures.found)

pub judge_call-returns : goal.judge_call-returns
judge_call-returns t c =
    let env = env_of c.args.place.now in
    call_says env c.args.call.now c.args.statement c.len-count.result c.find_called-entry.result c.called-callee.result c.args.found.now c.note_call.new.found c.note_callee.new.found c.actuals.new.found c.join.new.found
    c.unless_found.result (rw c.as_slice.ensures at c.find_called-entry.ensures) c.called-callee.ensures c.len-count.ensures c.note_call.ensures c.note_callee.ensures
    (rw c.as_slice-2.ensures at c.in_ok-actuals.ensures) c.join.ensures
    (λ vs h. c.unless_found.ensures vs h ∙ ap (if_clean vs) (c.call_value.ensures ∙ ap call_value c.result_of.ensures))
