use Rattle.std.proofs.Common.{rules, arith}
use Rattle.std.proofs.lemmas.Grind.{common_steps}
use Rattle.dpi_grammar.proofs.Turns.{none, next, failed, over}
use Rattle.sv_types.specs.Reading.{begins_dimension, import_dimension}
use Rattle.sv_types.proofs.imported.import_dimensions.Goals as goal

pub returns-then-not-begins_dimension : goal.returns-then-not-begins_dimension
returns-then-not-begins_dimension c = none begins_dimension import_dimension _ _ _ _ _ c.loop-turn-test.true c.loop-turn.invariant (search rules)

pub returns-in_err-import_dimension : goal.returns-in_err-import_dimension
returns-in_err-import_dimension c =
    let e = failed begins_dimension import_dimension _ _ _ _ _ c.in_err-import_dimension.field-0.0 c.loop-turn-test.true c.loop-turn.invariant (search rules) in
    first_of (search rules, grind (arith, common_steps))

pub loop-turn-preserved : goal.loop-turn-preserved
loop-turn-preserved c = next begins_dimension import_dimension _ _ _ _ _ c.in_ok-import_dimension.field-0 c.import_dimension.new.tokens _ c.loop-turn-test.true c.loop-turn.invariant (search rules) (search rules) (search rules)

pub returns : goal.returns
returns c = over begins_dimension import_dimension _ _ _ _ _ (search rules) c.loop-turn.invariant
