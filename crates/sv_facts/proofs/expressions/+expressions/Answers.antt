use Rattle.std.proofs.Common.{◌≡◌, ◌++◌, sym, ap, ◌∙◌, subst, flat_map}
use Rattle.std.specs.Prelude.{OnOk}
use Rattle.sv_tree.specs.declared.expr.Expr.{out-Expr}
use Rattle.sv_tree.specs.declared.expr.Choice.{out-Choice}
use Rattle.sv_tree.specs.declared.expr.Chain.{out-Chain}
use Rattle.sv_tree.specs.declared.expr.Lvalue.{out-Lvalue}
use Rattle.sv_tree.specs.declared.expr.Call.{out-Call}
use Rattle.sv_judge.specs.Calls.{env_of}
use Rattle.sv_facts.specs.Facts as facts
use Rattle.sv_facts.specs.Exprs as spec
use Rattle.sv_facts.proofs.Adding.{adds_both, adds_none, adding_next}
use Rattle.sv_facts.proofs.Trees.{inside_is, choice_is, chain_is, term_is, lvalue_is, call_is, operand_is, number_is, text_is, null_is, place_is, called_is, one_is, list_is, range_is, inner_is}
use Rattle.sv_facts.proofs.expressions.+expressions.Goals as goal

pub add_expr-returns : goal.add_expr-returns
add_expr-returns t c =
    let env = env_of c.args.place.now in
    let e = c.args.e.now in
    let old = c.args.list.now.items in
    let typed = c.add_type.new.list.items in
    let new = c.add_branches.new.list.items in
    let chain = spec.chain_facts env (out-Expr e).chain in
    let branch = spec.branch_facts env (out-Expr e).choice in
    let inner = adds_both typed c.add_chain.new.list.items new chain branch c.add_branches.result c.in_ok-add_chain.ensures c.add_branches.ensures in
    let whole = adds_both old typed new (facts.type_facts env e) (chain ++ branch) c.add_branches.result c.in_ok-add_type.ensures inner in
    subst (λ fs. OnOk c.add_branches.result (new ≡ old ++ (facts.type_facts env e ++ fs))) (sym (inside_is env e)) whole

pub add_choice-returns : goal.add_choice-returns
add_choice-returns t c =
    let env = env_of c.args.place.now in
    let b = c.args.branches.now in
    rw (choice_is env b) (adds_both c.args.list.now.items c.add_expr.new.list.items c.add_expr-2.new.list.items (spec.expr_facts env (out-Choice b).yes) (spec.expr_facts env (out-Choice b).no) c.add_expr-2.result c.in_ok-add_expr.ensures c.add_expr-2.ensures)

pub add_chain-returns : goal.add_chain-returns
add_chain-returns t c =
    let env = env_of c.args.place.now in
    let o = out-Chain c.args.chain.now in
    let rest = rw c.as_slice.ensures at c.add_terms.ensures in
    rw (chain_is env c.args.chain.now) (adds_both c.args.list.now.items c.add_operand.new.list.items c.add_terms.new.list.items (spec.operand_facts env o.first) (flat_map (spec.term_facts env) o.rest) c.add_terms.result c.in_ok-add_operand.ensures rest)

pub add_lvalue-returns : goal.add_lvalue-returns
add_lvalue-returns t c =
    let env = env_of c.args.place.now in
    let o = out-Lvalue c.args.lvalue.now in
    let selects = rw c.as_slice.ensures at c.add_selects.ensures in
    rw (lvalue_is env c.args.lvalue.now) (adds_both c.args.list.now.items c.add_value_name.new.list.items c.add_selects.new.list.items (facts.value_facts env o.name) (flat_map (spec.select_facts env) o.selects) c.add_selects.result c.in_ok-add_value_name.ensures selects)

pub add_call-returns : goal.add_call-returns
add_call-returns t c =
    let env = env_of c.args.place.now in
    let o = out-Call c.args.call.now in
    let actuals = rw c.as_slice.ensures at c.add_exprs.ensures in
    rw (call_is env c.args.call.now) (adds_both c.args.list.now.items c.add_called.new.list.items c.add_exprs.new.list.items (facts.called_facts env o.name) (flat_map (spec.expr_facts env) o.actuals) c.add_exprs.result c.in_ok-add_called.ensures actuals)

pub add_operand-returns-in-Place : goal.add_operand-returns-in-Place
add_operand-returns-in-Place t c =
    let env = env_of c.args.place.now in
    let is = operand_is env c.args.operand.now ∙ ap (spec.primary_facts env) c.in-Place.is ∙ place_is env c.in-Place.lvalue in
    rw is c.add_lvalue.ensures

pub add_operand-returns-in-Call : goal.add_operand-returns-in-Call
add_operand-returns-in-Call t c =
    let env = env_of c.args.place.now in
    let is = operand_is env c.args.operand.now ∙ ap (spec.primary_facts env) c.in-Call.is ∙ called_is env c.in-Call.call in
    rw is c.add_call.ensures

pub add_operand-returns-in-Number : goal.add_operand-returns-in-Number
add_operand-returns-in-Number t c =
    let env = env_of c.args.place.now in
    adds_none c.args.list.now.items _ (operand_is env c.args.operand.now ∙ ap (spec.primary_facts env) c.in-Number.is ∙ number_is env _)

pub add_operand-returns-in-Text : goal.add_operand-returns-in-Text
add_operand-returns-in-Text t c =
    let env = env_of c.args.place.now in
    adds_none c.args.list.now.items _ (operand_is env c.args.operand.now ∙ ap (spec.primary_facts env) c.in-Text.is ∙ text_is env _)

pub add_operand-returns-in-Null : goal.add_operand-returns-in-Null
add_operand-returns-in-Null t c =
    let env = env_of c.args.place.now in
    adds_none c.args.list.now.items _ (operand_is env c.args.operand.now ∙ ap (spec.primary_facts env) c.in-Null.is ∙ null_is env _)

pub add_operand-returns-in-Concatenation : goal.add_operand-returns-in-Concatenation
add_operand-returns-in-Concatenation t c =
    let env = env_of c.args.place.now in
    let is = operand_is env c.args.operand.now ∙ list_is env _ c.in-Concatenation.es c.in-Concatenation.is in
    rw is (rw c.as_slice.ensures at c.add_exprs.ensures)

pub add_operand-returns-in-Group : goal.add_operand-returns-in-Group
add_operand-returns-in-Group t c =
    let env = env_of c.args.place.now in
    let is = operand_is env c.args.operand.now ∙ one_is env _ c.in-Group.e c.in-Group.is in
    rw is (rw c.get.ensures at c.add_expr.ensures)

pub add_select-returns-in-Range : goal.add_select-returns-in-Range
add_select-returns-in-Range t c =
    let env = env_of c.args.place.now in
    adds_none c.args.list.now.items _ (ap (spec.select_facts env) c.in-Range.is ∙ range_is env _ _ _)

pub add_select-returns-in-Index : goal.add_select-returns-in-Index
add_select-returns-in-Index t c =
    rw (inner_is (env_of c.args.place.now) c.args.select.now c.in-Index.e c.in-Index.is) (rw c.get.ensures at c.add_expr.ensures)

pub add_exprs-loop-e-preserved : goal.add_exprs-loop-e-preserved
add_exprs-loop-e-preserved t c =
    adding_next (spec.expr_facts (env_of c.args.place.now)) _ c.loop-e.list.items c.add_expr.new.list.items c.args.es.now c.loop-e.e-index c.e-item.result c.loop-e-test.true c.e-item.is c.in_ok-add_expr.ensures c.loop-e.invariant

pub add_selects-loop-select-preserved : goal.add_selects-loop-select-preserved
add_selects-loop-select-preserved t c =
    adding_next (spec.select_facts (env_of c.args.place.now)) _ c.loop-select.list.items c.add_select.new.list.items c.args.selects.now c.loop-select.select-index c.select-item.result c.loop-select-test.true c.select-item.is c.in_ok-add_select.ensures c.loop-select.invariant

pub add_terms-loop-term-preserved : goal.add_terms-loop-term-preserved
add_terms-loop-term-preserved t c =
    let env = env_of c.args.place.now in
    adding_next (spec.term_facts env) _ c.loop-term.list.items c.add_operand.new.list.items c.args.rest.now c.loop-term.term-index c.term-item.result c.loop-term-test.true c.term-item.is
    (c.in_ok-add_operand.ensures ∙ ap (λ fs. c.loop-term.list.items ++ fs) (sym (term_is env c.term-item.result))) c.loop-term.invariant
