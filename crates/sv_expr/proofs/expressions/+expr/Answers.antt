use Rattle.std.proofs.Common.{rules, arith}
use Rattle.std.proofs.lemmas.Grind.{common_steps}
use Rattle.dpi_grammar.specs.Parser.{level}
use Rattle.dpi_grammar.proofs.Turns.{none, next, failed, over}
use Rattle.sv_tree.specs.declared.class.Class.TheVariants as classes
use Rattle.sv_tree.specs.Classes.{is}
use Rattle.sv_expr.specs.Front.{begins_term}
use Rattle.sv_expr.specs.Reading.{term, inside, next_expr, expr, select_by}
use Rattle.sv_expr.proofs.expressions.+expr.Goals as goal

pub terms-returns-then-not-begins_term : goal.terms-returns-then-not-begins_term
terms-returns-then-not-begins_term t c = none begins_term (term (inside c.args.depth)) _ _ _ _ _ c.loop-turn-test.true c.loop-turn.invariant (search rules)

pub terms-returns-in_err-term : goal.terms-returns-in_err-term
terms-returns-in_err-term t c =
    let e = failed begins_term (term (inside c.args.depth)) _ _ _ _ _ c.in_err-term.field-0.0 c.loop-turn-test.true c.loop-turn.invariant (search rules) in
    first_of (search rules, grind (arith, common_steps))

pub terms-loop-turn-preserved : goal.terms-loop-turn-preserved
terms-loop-turn-preserved t c =
    next begins_term (term (inside c.args.depth)) _ _ _ _ _ c.in_ok-term.field-0 c.term.new.tokens _ c.loop-turn-test.true c.loop-turn.invariant (search rules) (search rules) (search rules)

pub terms-returns : goal.terms-returns
terms-returns t c = over begins_term (term (inside c.args.depth)) _ _ _ _ _ (search rules) c.loop-turn.invariant

pub more_exprs-returns-then-not-sees : goal.more_exprs-returns-then-not-sees
more_exprs-returns-then-not-sees t c = none (is classes.Comma) (next_expr (expr c.args.depth)) _ _ _ _ _ c.loop-turn-test.true c.loop-turn.invariant (search rules)

pub more_exprs-returns-in_err-next_expr : goal.more_exprs-returns-in_err-next_expr
more_exprs-returns-in_err-next_expr t c =
    let e = failed (is classes.Comma) (next_expr (expr c.args.depth)) _ _ _ _ _ c.in_err-next_expr.field-0.0 c.loop-turn-test.true c.loop-turn.invariant (search rules) in
    first_of (search rules, grind (arith, common_steps))

pub more_exprs-loop-turn-preserved : goal.more_exprs-loop-turn-preserved
more_exprs-loop-turn-preserved t c =
    next (is classes.Comma) (next_expr (expr c.args.depth)) _ _ _ _ _ c.in_ok-next_expr.field-0 c.next_expr.new.tokens _ c.loop-turn-test.true c.loop-turn.invariant (search rules) (search rules) (search rules)

pub more_exprs-returns : goal.more_exprs-returns
more_exprs-returns t c = over (is classes.Comma) (next_expr (expr c.args.depth)) _ _ _ _ _ (search rules) c.loop-turn.invariant

pub selects-returns-then-not-sees : goal.selects-returns-then-not-sees
selects-returns-then-not-sees t c = none (is classes.OpenBracket) (level (inside c.args.depth) select_by) _ _ _ _ _ c.loop-turn-test.true c.loop-turn.invariant (search rules)

pub selects-returns-in_err-select : goal.selects-returns-in_err-select
selects-returns-in_err-select t c =
    let e = failed (is classes.OpenBracket) (level (inside c.args.depth) select_by) _ _ _ _ _ c.in_err-select.field-0.0 c.loop-turn-test.true c.loop-turn.invariant (search rules) in
    first_of (search rules, grind (arith, common_steps))

pub selects-loop-turn-preserved : goal.selects-loop-turn-preserved
selects-loop-turn-preserved t c =
    next (is classes.OpenBracket) (level (inside c.args.depth) select_by) _ _ _ _ _ c.in_ok-select.field-0 c.select.new.tokens _ c.loop-turn-test.true c.loop-turn.invariant (search rules) (search rules) (search rules)

pub selects-returns : goal.selects-returns
selects-returns t c = over (is classes.OpenBracket) (level (inside c.args.depth) select_by) _ _ _ _ _ (search rules) c.loop-turn.invariant
