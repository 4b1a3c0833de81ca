use Rattle.std.proofs.Common.{rules, arith}
use Rattle.std.proofs.lemmas.Grind.{common_steps}
use Rattle.dpi_grammar.proofs.Turns.{none, next, failed, over}
use Rattle.dpi_grammar.proofs.Leading.{leading_none, leading_next, leading_last, leading_failed, leading_over}
use Rattle.c_tree.specs.declared.class.Class.TheVariants as classes
use Rattle.c_tree.specs.Classes.{is}
use Rattle.c_expr.specs.Front.{begins_lead, begins_term, begins_assignment, begins_suffix}
use Rattle.c_expr.specs.Reading.{term, assignment, inside, readers, next_expr, suffix, lead, sort, plain}
use Rattle.c_expr.proofs.expressions.+expr.Goals as goal

pub assignments-returns-then-not-begins_assignment : goal.assignments-returns-then-not-begins_assignment
assignments-returns-then-not-begins_assignment t c = none begins_assignment (assignment (inside c.args.depth)) _ _ _ _ _ c.loop-turn-test.true c.loop-turn.invariant (search rules)

pub assignments-returns-in_err-assignment : goal.assignments-returns-in_err-assignment
assignments-returns-in_err-assignment t c =
    let e = failed begins_assignment (assignment (inside c.args.depth)) _ _ _ _ _ c.in_err-assignment.field-0.0 c.loop-turn-test.true c.loop-turn.invariant (search rules) in
    first_of (search rules, grind (arith, common_steps))

pub assignments-loop-turn-preserved : goal.assignments-loop-turn-preserved
assignments-loop-turn-preserved t c =
    next begins_assignment (assignment (inside c.args.depth)) _ _ _ _ _ c.in_ok-assignment.field-0 c.assignment.new.tokens _ c.loop-turn-test.true c.loop-turn.invariant (search rules) (search rules) (search rules)

pub assignments-returns : goal.assignments-returns
assignments-returns t c = over begins_assignment (assignment (inside c.args.depth)) _ _ _ _ _ (search rules) c.loop-turn.invariant

pub terms-returns-then-not-begins_term : goal.terms-returns-then-not-begins_term
terms-returns-then-not-begins_term t c = none begins_term (term (inside c.args.depth)) _ _ _ _ _ c.loop-turn-test.true c.loop-turn.invariant (search rules)

pub terms-returns-in_err-term : goal.terms-returns-in_err-term
terms-returns-in_err-term t c =
    let e = failed begins_term (term (inside c.args.depth)) _ _ _ _ _ c.in_err-term.field-0.0 c.loop-turn-test.true c.loop-turn.invariant (search rules) in
    first_of (search rules, grind (arith, common_steps))

pub terms-loop-turn-preserved : goal.terms-loop-turn-preserved
terms-loop-turn-preserved t c =
    next begins_term (term (inside c.args.depth)) _ _ _ _ _ c.in_ok-term.field-0 c.term.new.tokens _ c.loop-turn-test.true c.loop-turn.invariant (search rules) (search rules) (search rules)

pub terms-returns : goal.terms-returns
terms-returns t c = over begins_term (term (inside c.args.depth)) _ _ _ _ _ (search rules) c.loop-turn.invariant

pub suffixes-returns-then-not-begins_suffix : goal.suffixes-returns-then-not-begins_suffix
suffixes-returns-then-not-begins_suffix t c = none begins_suffix (suffix (inside c.args.depth)) _ _ _ _ _ c.loop-turn-test.true c.loop-turn.invariant (search rules)

pub suffixes-returns-in_err-suffix : goal.suffixes-returns-in_err-suffix
suffixes-returns-in_err-suffix t c =
    let e = failed begins_suffix (suffix (inside c.args.depth)) _ _ _ _ _ c.in_err-suffix.field-0.0 c.loop-turn-test.true c.loop-turn.invariant (search rules) in
    first_of (search rules, grind (arith, common_steps))

pub suffixes-loop-turn-preserved : goal.suffixes-loop-turn-preserved
suffixes-loop-turn-preserved t c =
    next begins_suffix (suffix (inside c.args.depth)) _ _ _ _ _ c.in_ok-suffix.field-0 c.suffix.new.tokens _ c.loop-turn-test.true c.loop-turn.invariant (search rules) (search rules) (search rules)

pub suffixes-returns : goal.suffixes-returns
suffixes-returns t c = over begins_suffix (suffix (inside c.args.depth)) _ _ _ _ _ (search rules) c.loop-turn.invariant

pub exprs-returns-then-not-sees : goal.exprs-returns-then-not-sees
exprs-returns-then-not-sees t c = none (is classes.Comma) (next_expr (readers c.args.depth)) _ _ _ _ _ c.loop-turn-test.true c.loop-turn.invariant (search rules)

pub exprs-returns-in_err-next_expr : goal.exprs-returns-in_err-next_expr
exprs-returns-in_err-next_expr t c =
    let e = failed (is classes.Comma) (next_expr (readers c.args.depth)) _ _ _ _ _ c.in_err-next_expr.field-0.0 c.loop-turn-test.true c.loop-turn.invariant (search rules) in
    first_of (search rules, grind (arith, common_steps))

pub exprs-loop-turn-preserved : goal.exprs-loop-turn-preserved
exprs-loop-turn-preserved t c =
    next (is classes.Comma) (next_expr (readers c.args.depth)) _ _ _ _ _ c.in_ok-next_expr.field-0 c.next_expr.new.tokens _ c.loop-turn-test.true c.loop-turn.invariant (search rules) (search rules) (search rules)

pub exprs-returns : goal.exprs-returns
exprs-returns t c = over (is classes.Comma) (next_expr (readers c.args.depth)) _ _ _ _ _ (search rules) c.loop-turn.invariant

pub led-returns-in_err-last : goal.led-returns-in_err-last
led-returns-in_err-last t c =
    let e = leading_none begins_lead (lead (inside c.args.depth)) sort (plain (inside c.args.depth)) _ _ _ _ _ c.loop-turn-test.true c.loop-turn.invariant (search rules) in
    first_of (search rules, grind (arith, common_steps))

pub led-returns-then-not-begins_lead : goal.led-returns-then-not-begins_lead
led-returns-then-not-begins_lead t c =
    let e = leading_none begins_lead (lead (inside c.args.depth)) sort (plain (inside c.args.depth)) _ _ _ _ _ c.loop-turn-test.true c.loop-turn.invariant (search rules) in
    first_of (search rules, grind (arith, common_steps))

pub led-returns-in_err-prefix : goal.led-returns-in_err-prefix
led-returns-in_err-prefix t c =
    let e = leading_failed begins_lead (lead (inside c.args.depth)) sort (plain (inside c.args.depth)) _ _ _ _ _ c.in_err-prefix.field-0.0 c.loop-turn-test.true c.loop-turn.invariant (search rules) in
    first_of (search rules, grind (arith, common_steps))

pub led-returns-in-Whole : goal.led-returns-in-Whole
led-returns-in-Whole t c =
    leading_last begins_lead (lead (inside c.args.depth)) sort (plain (inside c.args.depth)) _ _ _ _ _ c.in_ok-prefix.field-0 c.in-Whole.last c.lead.new.tokens c.loop-turn-test.true c.loop-turn.invariant (search rules) (search rules) (search rules)

pub led-loop-turn-preserved : goal.led-loop-turn-preserved
led-loop-turn-preserved t c =
    leading_next begins_lead (lead (inside c.args.depth)) sort (plain (inside c.args.depth)) _ _ _ _ _ c.in_ok-prefix.field-0 c.in-Prefix.prefix c.lead.new.tokens _ c.loop-turn-test.true c.loop-turn.invariant (search rules) (search rules) (search rules) (search rules)

pub led-returns-in_err-last-2 : goal.led-returns-in_err-last-2
led-returns-in_err-last-2 t c =
    let e = leading_over begins_lead (lead (inside c.args.depth)) sort (plain (inside c.args.depth)) _ _ _ _ _ (search rules) c.loop-turn.invariant in
    first_of (search rules, grind (arith, common_steps))

pub led-returns : goal.led-returns
led-returns t c =
    let e = leading_over begins_lead (lead (inside c.args.depth)) sort (plain (inside c.args.depth)) _ _ _ _ _ (search rules) c.loop-turn.invariant in
    first_of (search rules, grind (arith, common_steps))
