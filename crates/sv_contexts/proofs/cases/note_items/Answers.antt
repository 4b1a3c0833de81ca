use Rattle.dpi_rules.proofs.Noting.{noted_first, noted_next, noted_last}
use Rattle.sv_contexts.specs.Cases.{item_reached}
use Rattle.sv_contexts.proofs.cases.note_items.Goals as goal

pub loop-value-init : goal.loop-value-init
loop-value-init c = noted_first (item_reached c.args.width) c.args.found.now c.args.values.now

pub loop-value-preserved : goal.loop-value-preserved
loop-value-preserved c =
    noted_next
    c.args.values.now
    c.loop-value.value-index
    c.value-item.result
    c.loop-value-test.true
    c.value-item.is
    c.note_item.ensures
    c.loop-value.invariant

pub returns : goal.returns
returns c = noted_last c.args.values.now c.loop-value.value-index c.loop-value-test.false c.loop-value.invariant
