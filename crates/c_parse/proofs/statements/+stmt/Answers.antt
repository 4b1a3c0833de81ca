use Rattle.std.proofs.Common.{rules, arith, ap}
use Rattle.std.proofs.lemmas.Grind.{common_steps}
use Rattle.dpi_grammar.proofs.Turns.{none, next, failed, over, branch_none, branch_next, branch_last, branch_failed, branch_over}
use Rattle.c_tree.specs.declared.class.Class.TheVariants as classes
use Rattle.c_tree.specs.Classes.{is}
use Rattle.c_expr.specs.Reading.{expr}
use Rattle.c_parse.specs.Front.{begins_part}
use Rattle.c_parse.specs.ReadingStatements.{stmt, part_by, branch_by, branch_sort}
use Rattle.c_parse.proofs.statements.+stmt.Goals as goal

pub parts-returns-then-not-begins_part : goal.parts-returns-then-not-begins_part
parts-returns-then-not-begins_part t c = none begins_part (part_by (expr c.args.depth) (stmt c.args.depth)) _ _ _ _ _ c.loop-turn-test.true c.loop-turn.invariant (search rules)

pub parts-returns-in_err-part : goal.parts-returns-in_err-part
parts-returns-in_err-part t c =
    let e = failed begins_part (part_by (expr c.args.depth) (stmt c.args.depth)) _ _ _ _ _ c.in_err-part.field-0.0 c.loop-turn-test.true c.loop-turn.invariant (search rules) in
    first_of (search rules, grind (arith, common_steps))

pub parts-loop-turn-preserved : goal.parts-loop-turn-preserved
parts-loop-turn-preserved t c =
    next begins_part (part_by (expr c.args.depth) (stmt c.args.depth)) _ _ _ _ _ c.in_ok-part.field-0 c.part.new.tokens _ c.loop-turn-test.true c.loop-turn.invariant (search rules) (search rules) (search rules)

pub parts-returns : goal.parts-returns
parts-returns t c = over begins_part (part_by (expr c.args.depth) (stmt c.args.depth)) _ _ _ _ _ (search rules) c.loop-turn.invariant

pub branches-returns-then-not-sees : goal.branches-returns-then-not-sees
branches-returns-then-not-sees t c =
    branch_none (is classes.Else) (branch_by (expr c.args.depth) (stmt c.args.depth)) branch_sort _ _ _ _ _ c.loop-turn-test.true c.loop-turn.invariant (search rules)

pub branches-returns-in_err-other : goal.branches-returns-in_err-other
branches-returns-in_err-other t c =
    let e = branch_failed (is classes.Else) (branch_by (expr c.args.depth) (stmt c.args.depth)) branch_sort _ _ _ _ _ c.in_err-other.field-0.0 c.loop-turn-test.true c.loop-turn.invariant (search rules) in
    first_of (search rules, grind (arith, common_steps))

pub branches-returns-in-Last : goal.branches-returns-in-Last
branches-returns-in-Last t c =
    let e =
    branch_last (is classes.Else) (branch_by (expr c.args.depth) (stmt c.args.depth)) branch_sort _ _ _ _ _ c.in_ok-other.field-0 c.in-Last.last c.branch-alloc.new.tokens c.loop-turn-test.true c.loop-turn.invariant (search rules) (search rules) (ap branch_sort c.in-Last.is) in
    first_of (search rules, grind (arith, common_steps))

pub branches-loop-turn-preserved : goal.branches-loop-turn-preserved
branches-loop-turn-preserved t c =
    branch_next (is classes.Else) (branch_by (expr c.args.depth) (stmt c.args.depth)) branch_sort _ _ _ _ _ c.in_ok-other.field-0 c.in-Other.other c.branch-alloc.new.tokens _ c.loop-turn-test.true c.loop-turn.invariant (search rules) (search rules) (ap branch_sort c.in-Other.is) (search rules)

pub branches-returns : goal.branches-returns
branches-returns t c = branch_over (is classes.Else) (branch_by (expr c.args.depth) (stmt c.args.depth)) branch_sort _ _ _ _ _ (search rules) c.loop-turn.invariant
