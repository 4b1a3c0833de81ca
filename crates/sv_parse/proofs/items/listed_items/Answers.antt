use Rattle.std.proofs.Common.{rules, arith}
use Rattle.std.proofs.lemmas.Grind.{common_steps}
use Rattle.dpi_grammar.proofs.Turns.{none, next, failed, over}
use Rattle.sv_parse.specs.Reading.{begins_item, item}
use Rattle.sv_parse.proofs.items.listed_items.Goals as goal

pub returns-then-not-begins_item : goal.returns-then-not-begins_item
returns-then-not-begins_item c = none begins_item (item c.args.depth) _ _ _ _ _ c.loop-turn-test.true c.loop-turn.invariant (search rules)

pub returns-in_err-item : goal.returns-in_err-item
returns-in_err-item c =
    let e = failed begins_item (item c.args.depth) _ _ _ _ _ c.in_err-item.field-0.0 c.loop-turn-test.true c.loop-turn.invariant (search rules) in
    first_of (search rules, grind (arith, common_steps))

pub loop-turn-preserved : goal.loop-turn-preserved
loop-turn-preserved c = next begins_item (item c.args.depth) _ _ _ _ _ c.in_ok-item.field-0 c.item.new.tokens _ c.loop-turn-test.true c.loop-turn.invariant (search rules) (search rules) (search rules)

pub returns : goal.returns
returns c = over begins_item (item c.args.depth) _ _ _ _ _ (search rules) c.loop-turn.invariant
