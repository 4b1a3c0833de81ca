use Rattle.std.proofs.Common.{rules, arith}
use Rattle.std.proofs.lemmas.Grind.{common_steps}
use Rattle.dpi_grammar.proofs.Turns.{none, next, failed, over}
use Rattle.sv_expr.specs.Front.{begins_prefix}
use Rattle.sv_expr.specs.Reading.{prefix}
use Rattle.sv_expr.proofs.parts.prefixes.Goals as goal

pub returns-then-not-begins_prefix : goal.returns-then-not-begins_prefix
returns-then-not-begins_prefix c = none begins_prefix prefix _ _ _ _ _ c.loop-turn-test.true c.loop-turn.invariant (search rules)

pub returns-in_err-prefix : goal.returns-in_err-prefix
returns-in_err-prefix c =
    let e = failed begins_prefix prefix _ _ _ _ _ c.in_err-prefix.field-0.0 c.loop-turn-test.true c.loop-turn.invariant (search rules) in
    first_of (search rules, grind (arith, common_steps))

pub loop-turn-preserved : goal.loop-turn-preserved
loop-turn-preserved c = next begins_prefix prefix _ _ _ _ _ c.in_ok-prefix.field-0 c.prefix.new.tokens _ c.loop-turn-test.true c.loop-turn.invariant (search rules) (search rules) (search rules)

pub returns : goal.returns
returns c = over begins_prefix prefix _ _ _ _ _ (search rules) c.loop-turn.invariant
