use Rattle.std.proofs.Common.{rules, arith}
use Rattle.std.proofs.lemmas.Grind.{common_steps}
use Rattle.dpi_grammar.proofs.Turns.{none, next, failed, over}
use Rattle.sv_tree.specs.declared.class.Class.TheVariants as classes
use Rattle.sv_tree.specs.Classes.{is}
use Rattle.sv_stmt.specs.ReadingVariables.{next_init, init}
use Rattle.sv_stmt.proofs.declarators.+init.Goals as goal

pub more_inits-returns-then-not-sees : goal.more_inits-returns-then-not-sees
more_inits-returns-then-not-sees t c = none (is classes.Comma) (next_init (init c.args.depth)) _ _ _ _ _ c.loop-turn-test.true c.loop-turn.invariant (search rules)

pub more_inits-returns-in_err-next_init : goal.more_inits-returns-in_err-next_init
more_inits-returns-in_err-next_init t c =
    let e = failed (is classes.Comma) (next_init (init c.args.depth)) _ _ _ _ _ c.in_err-next_init.field-0.0 c.loop-turn-test.true c.loop-turn.invariant (search rules) in
    first_of (search rules, grind (arith, common_steps))

pub more_inits-loop-turn-preserved : goal.more_inits-loop-turn-preserved
more_inits-loop-turn-preserved t c =
    next (is classes.Comma) (next_init (init c.args.depth)) _ _ _ _ _ c.in_ok-next_init.field-0 c.next_init.new.tokens _ c.loop-turn-test.true c.loop-turn.invariant (search rules) (search rules) (search rules)

pub more_inits-returns : goal.more_inits-returns
more_inits-returns t c = over (is classes.Comma) (next_init (init c.args.depth)) _ _ _ _ _ (search rules) c.loop-turn.invariant
