use Rattle.std.proofs.Common.{rules, arith}
use Rattle.std.proofs.lemmas.Grind.{common_steps}
use Rattle.dpi_grammar.proofs.Turns.{none, next, failed, over}
use Rattle.c_tree.specs.declared.class.Class.TheVariants as classes
use Rattle.c_tree.specs.Classes.{is}
use Rattle.c_parse.specs.ReadingDeclarations.{next_param}
use Rattle.c_parse.proofs.parameters.more_params.Goals as goal

pub returns-then-not-sees : goal.returns-then-not-sees
returns-then-not-sees c = none (is classes.Comma) next_param _ _ _ _ _ c.loop-turn-test.true c.loop-turn.invariant (search rules)

pub returns-in_err-next_param : goal.returns-in_err-next_param
returns-in_err-next_param c =
    let e = failed (is classes.Comma) next_param _ _ _ _ _ c.in_err-next_param.field-0.0 c.loop-turn-test.true c.loop-turn.invariant (search rules) in
    first_of (search rules, grind (arith, common_steps))

pub loop-turn-preserved : goal.loop-turn-preserved
loop-turn-preserved c = next (is classes.Comma) next_param _ _ _ _ _ c.in_ok-next_param.field-0 c.next_param.new.tokens _ c.loop-turn-test.true c.loop-turn.invariant (search rules) (search rules) (search rules)

pub returns : goal.returns
returns c = over (is classes.Comma) next_param _ _ _ _ _ (search rules) c.loop-turn.invariant
