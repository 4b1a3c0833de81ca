use Rattle.std.proofs.Common.{◌≡◌, ◌++◌, sym, ap, ◌∙◌, subst, flat_map}
use Rattle.std.specs.Prelude.{OnOk}
use Rattle.c_tree.specs.declared.expr.CExpr.{out-CExpr}
use Rattle.c_tree.specs.declared.expr.Cond.{out-Cond}
use Rattle.c_tree.specs.declared.expr.Choice.{out-Choice}
use Rattle.c_tree.specs.declared.expr.Chain.{out-Chain}
use Rattle.c_tree.specs.declared.expr.Operand.{out-Operand}
use Rattle.c_judge.specs.Calls.{env_of}
use Rattle.c_walk.specs.Around.{values_of}
use Rattle.c_facts.specs.Facts as facts
use Rattle.c_facts.specs.Exprs as spec
use Rattle.c_facts.proofs.Adding.{adds_both, adds_none, adding_next}
use Rattle.c_facts.proofs.Trees.{inside_is, assignment_is, cond_is, choice_is, chain_is, term_is, operand_is, name_is, number_is, character_is, text_is, null_is, group_is, call_is, index_is, member_is, arrow_is, increment_is, decrement_is}
use Rattle.c_facts.proofs.expressions.+expressions.Goals as goal

pub add_expr-returns : goal.add_expr-returns
add_expr-returns t c =
    let env = env_of c.args.around.now in
    let values = values_of c.args.defines.now in
    let e = c.args.e.now in
    let old = c.args.list.now.items in
    let typed = c.add_type.new.list.items in
    let new = c.add_assignments.new.list.items in
    let first = spec.cond_facts env values (out-CExpr e).first in
    let rest = flat_map (spec.assignment_facts env values) (out-CExpr e).rest in
    let inner = adds_both typed c.add_cond.new.list.items new first rest c.add_assignments.result c.in_ok-add_cond.ensures (rw c.as_slice.ensures at c.add_assignments.ensures) in
    let whole = adds_both old typed new (facts.type_facts env e) (first ++ rest) c.add_assignments.result c.in_ok-add_type.ensures inner in
    subst (λ fs. OnOk c.add_assignments.result (new ≡ old ++ (facts.type_facts env e ++ fs))) (sym (inside_is env values e)) whole

pub add_cond-returns : goal.add_cond-returns
add_cond-returns t c =
    let env = env_of c.args.around.now in
    let values = values_of c.args.defines.now in
    rw (cond_is env values c.args.cond.now) (adds_both c.args.list.now.items c.add_chain.new.list.items c.add_branches.new.list.items (spec.chain_facts env values (out-Cond c.args.cond.now).chain) (spec.branch_facts env values (out-Cond c.args.cond.now).choice) c.add_branches.result c.in_ok-add_chain.ensures c.add_branches.ensures)

pub add_choice-returns : goal.add_choice-returns
add_choice-returns t c =
    let env = env_of c.args.around.now in
    let values = values_of c.args.defines.now in
    rw (choice_is env values c.args.branches.now) (adds_both c.args.list.now.items c.add_expr.new.list.items c.add_cond.new.list.items (spec.expr_facts env values (out-Choice c.args.branches.now).yes) (spec.cond_facts env values (out-Choice c.args.branches.now).no) c.add_cond.result c.in_ok-add_expr.ensures c.add_cond.ensures)

pub add_chain-returns : goal.add_chain-returns
add_chain-returns t c =
    let env = env_of c.args.around.now in
    let values = values_of c.args.defines.now in
    rw (chain_is env values c.args.chain.now) (adds_both c.args.list.now.items c.add_operand.new.list.items c.add_terms.new.list.items (spec.operand_facts env values (out-Chain c.args.chain.now).first) (flat_map (spec.term_facts env values) (out-Chain c.args.chain.now).rest) c.add_terms.result c.in_ok-add_operand.ensures (rw c.as_slice.ensures at c.add_terms.ensures))

pub add_operand-returns : goal.add_operand-returns
add_operand-returns t c =
    let env = env_of c.args.around.now in
    let values = values_of c.args.defines.now in
    rw (operand_is env values c.args.operand.now) (adds_both c.args.list.now.items c.add_primary.new.list.items c.add_suffixes.new.list.items (spec.primary_facts env values (out-Operand c.args.operand.now).primary) (flat_map (spec.suffix_facts env values) (out-Operand c.args.operand.now).suffixes) c.add_suffixes.result c.in_ok-add_primary.ensures (rw c.as_slice.ensures at c.add_suffixes.ensures))

pub add_primary-returns-in-Name : goal.add_primary-returns-in-Name
add_primary-returns-in-Name t c =
    let env = env_of c.args.around.now in
    let values = values_of c.args.defines.now in
    rw (ap (spec.primary_facts env values) c.in-Name.is ∙ name_is env values c.in-Name.name) c.add_value_name.ensures

pub add_primary-returns-in-Number : goal.add_primary-returns-in-Number
add_primary-returns-in-Number t c =
    let env = env_of c.args.around.now in
    let values = values_of c.args.defines.now in
    adds_none c.args.list.now.items _ (ap (spec.primary_facts env values) c.in-Number.is ∙ number_is env values _)

pub add_primary-returns-in-Character : goal.add_primary-returns-in-Character
add_primary-returns-in-Character t c =
    let env = env_of c.args.around.now in
    let values = values_of c.args.defines.now in
    adds_none c.args.list.now.items _ (ap (spec.primary_facts env values) c.in-Character.is ∙ character_is env values _)

pub add_primary-returns-in-Text : goal.add_primary-returns-in-Text
add_primary-returns-in-Text t c =
    let env = env_of c.args.around.now in
    let values = values_of c.args.defines.now in
    adds_none c.args.list.now.items _ (ap (spec.primary_facts env values) c.in-Text.is ∙ text_is env values _)

pub add_primary-returns-in-Null : goal.add_primary-returns-in-Null
add_primary-returns-in-Null t c =
    let env = env_of c.args.around.now in
    let values = values_of c.args.defines.now in
    adds_none c.args.list.now.items _ (ap (spec.primary_facts env values) c.in-Null.is ∙ null_is env values _)

pub add_primary-returns-in_ok-add_called_name-in-Call : goal.add_primary-returns-in_ok-add_called_name-in-Call
add_primary-returns-in_ok-add_called_name-in-Call t c =
    let env = env_of c.args.around.now in
    let values = values_of c.args.defines.now in
    let n = c.in-Call.name in
    let es = c.in-Call.es in
    let slice = c.as_slice-arguments.ensures in
    rw (ap (spec.primary_facts env values) c.in-Call.is ∙ call_is env values n _ es) (adds_both c.args.list.now.items c.add_called_name.new.list.items c.add_exprs.new.list.items (facts.called_facts env values n es) (flat_map (spec.expr_facts env values) es) c.add_exprs.result (rw slice at c.in_ok-add_called_name-in-Call.ensures) (rw slice at c.add_exprs.ensures))

pub add_primary-returns-in-Group : goal.add_primary-returns-in-Group
add_primary-returns-in-Group t c =
    let env = env_of c.args.around.now in
    let values = values_of c.args.defines.now in
    rw (ap (spec.primary_facts env values) c.in-Group.is ∙ group_is env values _ c.in-Group.e) (rw c.get.ensures at c.add_expr.ensures)

pub add_suffix-returns-in-Index : goal.add_suffix-returns-in-Index
add_suffix-returns-in-Index t c =
    let env = env_of c.args.around.now in
    let values = values_of c.args.defines.now in
    rw (ap (spec.suffix_facts env values) c.in-Index.is ∙ index_is env values _ c.in-Index.e) (rw c.get.ensures at c.add_expr.ensures)

pub add_suffix-returns-in-Member : goal.add_suffix-returns-in-Member
add_suffix-returns-in-Member t c =
    let env = env_of c.args.around.now in
    let values = values_of c.args.defines.now in
    adds_none c.args.list.now.items _ (ap (spec.suffix_facts env values) c.in-Member.is ∙ member_is env values _ _)

pub add_suffix-returns-in-Arrow : goal.add_suffix-returns-in-Arrow
add_suffix-returns-in-Arrow t c =
    let env = env_of c.args.around.now in
    let values = values_of c.args.defines.now in
    adds_none c.args.list.now.items _ (ap (spec.suffix_facts env values) c.in-Arrow.is ∙ arrow_is env values _ _)

pub add_suffix-returns-in-Increment : goal.add_suffix-returns-in-Increment
add_suffix-returns-in-Increment t c =
    let env = env_of c.args.around.now in
    let values = values_of c.args.defines.now in
    adds_none c.args.list.now.items _ (ap (spec.suffix_facts env values) c.in-Increment.is ∙ increment_is env values _)

pub add_suffix-returns-in-Decrement : goal.add_suffix-returns-in-Decrement
add_suffix-returns-in-Decrement t c =
    let env = env_of c.args.around.now in
    let values = values_of c.args.defines.now in
    adds_none c.args.list.now.items _ (ap (spec.suffix_facts env values) c.in-Decrement.is ∙ decrement_is env values _)

pub add_exprs-loop-e-preserved : goal.add_exprs-loop-e-preserved
add_exprs-loop-e-preserved t c =
    let env = env_of c.args.around.now in
    let values = values_of c.args.defines.now in
    adding_next (spec.expr_facts env values) _ c.loop-e.list.items c.add_expr.new.list.items c.args.es.now c.loop-e.e-index c.e-item.result c.loop-e-test.true c.e-item.is
    c.in_ok-add_expr.ensures c.loop-e.invariant

pub add_assignments-loop-part-preserved : goal.add_assignments-loop-part-preserved
add_assignments-loop-part-preserved t c =
    let env = env_of c.args.around.now in
    let values = values_of c.args.defines.now in
    adding_next (spec.assignment_facts env values) _ c.loop-part.list.items c.add_cond.new.list.items c.args.rest.now c.loop-part.part-index c.part-item.result c.loop-part-test.true c.part-item.is
    (c.in_ok-add_cond.ensures ∙ ap (λ fs. c.loop-part.list.items ++ fs) (sym (assignment_is env values c.part-item.result))) c.loop-part.invariant

pub add_terms-loop-term-preserved : goal.add_terms-loop-term-preserved
add_terms-loop-term-preserved t c =
    let env = env_of c.args.around.now in
    let values = values_of c.args.defines.now in
    adding_next (spec.term_facts env values) _ c.loop-term.list.items c.add_operand.new.list.items c.args.rest.now c.loop-term.term-index c.term-item.result c.loop-term-test.true c.term-item.is
    (c.in_ok-add_operand.ensures ∙ ap (λ fs. c.loop-term.list.items ++ fs) (sym (term_is env values c.term-item.result))) c.loop-term.invariant

pub add_suffixes-loop-suffix-preserved : goal.add_suffixes-loop-suffix-preserved
add_suffixes-loop-suffix-preserved t c =
    let env = env_of c.args.around.now in
    let values = values_of c.args.defines.now in
    adding_next (spec.suffix_facts env values) _ c.loop-suffix.list.items c.add_suffix.new.list.items c.args.suffixes.now c.loop-suffix.suffix-index c.suffix-item.result c.loop-suffix-test.true c.suffix-item.is
    c.in_ok-add_suffix.ensures c.loop-suffix.invariant
