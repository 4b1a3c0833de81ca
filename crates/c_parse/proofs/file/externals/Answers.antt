use Rattle.std.proofs.Common.{rules, arith}
use Rattle.std.proofs.lemmas.Grind.{common_steps}
use Rattle.dpi_grammar.proofs.Turns.{none, next, failed, over}
use Rattle.c_parse.specs.Front.{begins_external}
use Rattle.c_parse.specs.ReadingFile.{external}
use Rattle.c_parse.proofs.file.externals.Goals as goal

pub returns-then-not-begins_external : goal.returns-then-not-begins_external
returns-then-not-begins_external c = none begins_external (external c.args.depth) _ _ _ _ _ c.loop-turn-test.true c.loop-turn.invariant (search rules)

pub returns-in_err-external : goal.returns-in_err-external
returns-in_err-external c =
    let e = failed begins_external (external c.args.depth) _ _ _ _ _ c.in_err-external.field-0.0 c.loop-turn-test.true c.loop-turn.invariant (search rules) in
    first_of (search rules, grind (arith, common_steps))

pub loop-turn-preserved : goal.loop-turn-preserved
loop-turn-preserved c = next begins_external (external c.args.depth) _ _ _ _ _ c.in_ok-external.field-0 c.external.new.tokens _ c.loop-turn-test.true c.loop-turn.invariant (search rules) (search rules) (search rules)

pub returns : goal.returns
returns c = over begins_external (external c.args.depth) _ _ _ _ _ (search rules) c.loop-turn.invariant
