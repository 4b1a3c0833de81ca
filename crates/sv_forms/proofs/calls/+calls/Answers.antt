use Rattle.dpi_rules.proofs.Noting.{noted_first, noted_next, noted_both}
use Rattle.sv_forms.proofs.Notes.{all_noted}
use Rattle.sv_forms.proofs.CallForms.{chain_is, choice_is, expr_is}
use Rattle.std.proofs.Common.{◌∙◌, ap, map}
use Rattle.std.specs.Prelude.{option_map}
use Rattle.dpi_rules.specs.Least.{noted}
use Rattle.sv_tree.specs.declared.expr.Chain.{out-Chain}
use Rattle.sv_tree.specs.declared.expr.Choice.{out-Choice}
use Rattle.sv_tree.specs.declared.expr.Expr.{out-Expr}
use Rattle.sv_forms.specs.Calls.{in_expr, in_chain, in_choice, in_operand, in_term, in_select, all_of, where_there}
use Rattle.sv_forms.proofs.calls.+calls.Goals as goal

pub note_exprs-loop-expr-init : goal.note_exprs-loop-expr-init
note_exprs-loop-expr-init t c =
    noted_first (in_expr c.args.file) c.args.found.now c.args.exprs.now

pub note_exprs-loop-expr-preserved : goal.note_exprs-loop-expr-preserved
note_exprs-loop-expr-preserved t c =
    noted_next c.args.exprs.now c.loop-expr.expr-index c.expr-item.result c.loop-expr-test.true c.expr-item.is c.note_expr.ensures c.loop-expr.invariant

pub note_exprs-returns : goal.note_exprs-returns
note_exprs-returns t c =
    all_noted c.args.exprs.now c.loop-expr.expr-index c.loop-expr-test.false c.loop-expr.invariant

pub note_selects-loop-select-init : goal.note_selects-loop-select-init
note_selects-loop-select-init t c =
    noted_first (in_select c.args.file) c.args.found.now c.args.selects.now

pub note_selects-loop-select-preserved : goal.note_selects-loop-select-preserved
note_selects-loop-select-preserved t c =
    noted_next c.args.selects.now c.loop-select.select-index c.select-item.result c.loop-select-test.true c.select-item.is c.note_select.ensures c.loop-select.invariant

pub note_selects-returns : goal.note_selects-returns
note_selects-returns t c =
    all_noted c.args.selects.now c.loop-select.select-index c.loop-select-test.false c.loop-select.invariant

pub note_terms-loop-term-init : goal.note_terms-loop-term-init
note_terms-loop-term-init t c =
    noted_first (in_term c.args.file) c.args.found.now c.args.terms.now

pub note_terms-loop-term-preserved : goal.note_terms-loop-term-preserved
note_terms-loop-term-preserved t c =
    noted_next c.args.terms.now c.loop-term.term-index c.term-item.result c.loop-term-test.true c.term-item.is c.note_term.ensures c.loop-term.invariant

pub note_terms-returns : goal.note_terms-returns
note_terms-returns t c =
    all_noted c.args.terms.now c.loop-term.term-index c.loop-term-test.false c.loop-term.invariant

pub note_chain-returns : goal.note_chain-returns
note_chain-returns t c =
    let chain = out-Chain c.args.chain.now in
    rw (chain_is c.args.file c.args.chain.now) (noted_both
    c.args.found.now
    (in_operand c.args.file chain.first)
    (all_of (map (in_term c.args.file) chain.rest))
    c.note_operand.ensures
    (c.note_terms.ensures ∙ ap (λ ts. noted c.note_operand.new.found (all_of (map (in_term c.args.file) ts))) c.as_slice.ensures))

pub note_choice-returns : goal.note_choice-returns
note_choice-returns t c =
    let choice = out-Choice c.args.choice.now in
    rw (choice_is c.args.file c.args.choice.now)
    (noted_both c.args.found.now (in_expr c.args.file choice.yes) (in_expr c.args.file choice.no) c.note_expr.ensures c.note_expr-2.ensures)

pub note_expr-returns : goal.note_expr-returns
note_expr-returns t c =
    let expr = out-Expr c.args.expr.now in
    rw (expr_is c.args.file c.args.expr.now) (noted_both
    c.args.found.now
    (in_chain c.args.file expr.chain)
    (where_there (option_map (in_choice c.args.file) expr.choice))
    c.note_chain.ensures
    c.note_behind.ensures)
