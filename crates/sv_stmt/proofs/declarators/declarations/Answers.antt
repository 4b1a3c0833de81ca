use Rattle.std.proofs.Common.{rules, arith}
use Rattle.std.proofs.lemmas.Grind.{common_steps}
use Rattle.dpi_grammar.proofs.Turns.{none, next, failed, over}
use Rattle.sv_types.specs.Reading.{begins_data_type}
use Rattle.sv_stmt.specs.ReadingVariables.{variables}
use Rattle.sv_stmt.proofs.declarators.declarations.Goals as goal

pub returns-then-not-begins_data_type : goal.returns-then-not-begins_data_type
returns-then-not-begins_data_type c = none begins_data_type (variables c.args.depth) _ _ _ _ _ c.loop-turn-test.true c.loop-turn.invariant (search rules)

pub returns-in_err-variables : goal.returns-in_err-variables
returns-in_err-variables c =
    let e = failed begins_data_type (variables c.args.depth) _ _ _ _ _ c.in_err-variables.field-0.0 c.loop-turn-test.true c.loop-turn.invariant (search rules) in
    first_of (search rules, grind (arith, common_steps))

pub loop-turn-preserved : goal.loop-turn-preserved
loop-turn-preserved c =
    next begins_data_type (variables c.args.depth) _ _ _ _ _ c.in_ok-variables.field-0 c.variables.new.tokens _ c.loop-turn-test.true c.loop-turn.invariant (search rules) (search rules) (search rules)

pub returns : goal.returns
returns c = over begins_data_type (variables c.args.depth) _ _ _ _ _ (search rules) c.loop-turn.invariant
