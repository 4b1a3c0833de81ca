use Rattle.std.proofs.Common.{◌∙◌, ◌++◌, ap, map}
use Rattle.std.specs.Prelude.{option_map}
use Rattle.dpi_rules.specs.Least.{noted}
use Rattle.dpi_rules.proofs.Noting.{noted_first, noted_next, noted_both}
use Rattle.c_tree.specs.declared.expr.CExpr.{out-CExpr}
use Rattle.c_tree.specs.declared.expr.Cond.{out-Cond}
use Rattle.c_tree.specs.declared.expr.Choice.{out-Choice}
use Rattle.c_tree.specs.declared.expr.Chain.{out-Chain}
use Rattle.c_tree.specs.declared.expr.Operand.{out-Operand}
use Rattle.c_calls.specs.Refusals.{rules_of}
use Rattle.c_calls.specs.Expressions.{all_of, where_there, called, in_expr, in_assignment, in_cond, in_choice, in_chain, in_term, in_operand, in_primary, in_suffix}
use Rattle.c_calls.proofs.Notes.{all_noted}
use Rattle.c_calls.proofs.ExpressionForms.{expr_is, chain_is, choice_is, operand_is, cond_is}
use Rattle.c_calls.proofs.expressions.+expressions.Goals as goal

pub note_assignments-loop-assignment-init : goal.note_assignments-loop-assignment-init
note_assignments-loop-assignment-init t c = noted_first (in_assignment c.args.file (rules_of c.args.refusals.now)) c.args.found.now c.args.rest.now

pub note_assignments-loop-assignment-preserved : goal.note_assignments-loop-assignment-preserved
note_assignments-loop-assignment-preserved t c = noted_next c.args.rest.now c.loop-assignment.assignment-index c.assignment-item.result c.loop-assignment-test.true c.assignment-item.is c.note_assignment.ensures c.loop-assignment.invariant

pub note_assignments-returns : goal.note_assignments-returns
note_assignments-returns t c = all_noted c.args.rest.now c.loop-assignment.assignment-index c.loop-assignment-test.false c.loop-assignment.invariant

pub note_terms-loop-term-init : goal.note_terms-loop-term-init
note_terms-loop-term-init t c = noted_first (in_term c.args.file (rules_of c.args.refusals.now)) c.args.found.now c.args.terms.now

pub note_terms-loop-term-preserved : goal.note_terms-loop-term-preserved
note_terms-loop-term-preserved t c = noted_next c.args.terms.now c.loop-term.term-index c.term-item.result c.loop-term-test.true c.term-item.is c.note_term.ensures c.loop-term.invariant

pub note_terms-returns : goal.note_terms-returns
note_terms-returns t c = all_noted c.args.terms.now c.loop-term.term-index c.loop-term-test.false c.loop-term.invariant

pub note_suffixes-loop-suffix-init : goal.note_suffixes-loop-suffix-init
note_suffixes-loop-suffix-init t c = noted_first (in_suffix c.args.file (rules_of c.args.refusals.now)) c.args.found.now c.args.suffixes.now

pub note_suffixes-loop-suffix-preserved : goal.note_suffixes-loop-suffix-preserved
note_suffixes-loop-suffix-preserved t c = noted_next c.args.suffixes.now c.loop-suffix.suffix-index c.suffix-item.result c.loop-suffix-test.true c.suffix-item.is c.note_suffix.ensures c.loop-suffix.invariant

pub note_suffixes-returns : goal.note_suffixes-returns
note_suffixes-returns t c = all_noted c.args.suffixes.now c.loop-suffix.suffix-index c.loop-suffix-test.false c.loop-suffix.invariant

pub note_exprs-loop-expr-init : goal.note_exprs-loop-expr-init
note_exprs-loop-expr-init t c = noted_first (in_expr c.args.file (rules_of c.args.refusals.now)) c.args.found.now c.args.exprs.now

pub note_exprs-loop-expr-preserved : goal.note_exprs-loop-expr-preserved
note_exprs-loop-expr-preserved t c = noted_next c.args.exprs.now c.loop-expr.expr-index c.expr-item.result c.loop-expr-test.true c.expr-item.is c.note_expr.ensures c.loop-expr.invariant

pub note_exprs-returns : goal.note_exprs-returns
note_exprs-returns t c = all_noted c.args.exprs.now c.loop-expr.expr-index c.loop-expr-test.false c.loop-expr.invariant

pub note_expr-returns : goal.note_expr-returns
note_expr-returns t c =
    let o = out-CExpr c.args.expr.now in
    rw (expr_is c.args.file (rules_of c.args.refusals.now) c.args.expr.now) (noted_both
    c.args.found.now
    (in_cond c.args.file (rules_of c.args.refusals.now) o.first)
    (all_of (map (in_assignment c.args.file (rules_of c.args.refusals.now)) o.rest))
    c.note_cond.ensures
    (rw c.as_slice.ensures at c.note_assignments.ensures))

pub note_chain-returns : goal.note_chain-returns
note_chain-returns t c =
    let o = out-Chain c.args.chain.now in
    rw (chain_is c.args.file (rules_of c.args.refusals.now) c.args.chain.now) (noted_both
    c.args.found.now
    (in_operand c.args.file (rules_of c.args.refusals.now) o.first)
    (all_of (map (in_term c.args.file (rules_of c.args.refusals.now)) o.rest))
    c.note_operand.ensures
    (rw c.as_slice.ensures at c.note_terms.ensures))

pub note_choice-returns : goal.note_choice-returns
note_choice-returns t c =
    let o = out-Choice c.args.choice.now in
    rw (choice_is c.args.file (rules_of c.args.refusals.now) c.args.choice.now) (noted_both
    c.args.found.now
    (in_expr c.args.file (rules_of c.args.refusals.now) o.yes)
    (in_cond c.args.file (rules_of c.args.refusals.now) o.no)
    c.note_expr.ensures
    c.note_cond.ensures)

pub note_operand-returns : goal.note_operand-returns
note_operand-returns t c =
    let o = out-Operand c.args.operand.now in
    rw (operand_is c.args.file (rules_of c.args.refusals.now) c.args.operand.now) (noted_both
    c.args.found.now
    (in_primary c.args.file (rules_of c.args.refusals.now) o.primary)
    (all_of (map (in_suffix c.args.file (rules_of c.args.refusals.now)) o.suffixes))
    c.note_primary.ensures
    (rw c.as_slice.ensures at c.note_suffixes.ensures))

pub note_cond-returns : goal.note_cond-returns
note_cond-returns t c =
    let o = out-Cond c.args.cond.now in
    rw (cond_is c.args.file (rules_of c.args.refusals.now) c.args.cond.now) (noted_both
    c.args.found.now
    (in_chain c.args.file (rules_of c.args.refusals.now) o.chain)
    (where_there (option_map (in_choice c.args.file (rules_of c.args.refusals.now)) o.choice))
    c.note_chain.ensures
    c.note_behind.ensures)

pub note_call-returns : goal.note_call-returns
note_call-returns t c = noted_both c.args.found.now (called c.args.file c.args.name.now.token (rules_of c.args.refusals.now c.args.name.now.bytes)) (all_of (map (in_expr c.args.file (rules_of c.args.refusals.now)) c.args.arguments.now)) c.note_called.ensures c.note_exprs.ensures
