use Rattle.sv_contexts.proofs.Widths.{widest_next}
use Rattle.sv_contexts.proofs.cases.widest.Goals as goal

pub loop-value-preserved : goal.loop-value-preserved
loop-value-preserved c =
    rw (c.max-width.ensures, c.item_width.ensures)
    (widest_next c.args.values.now c.loop-value.value-index c.value-item.result c.loop-value.width c.loop-value-test.true c.value-item.is c.loop-value.invariant)
