use Rattle.std.proofs.Common.{◌∙◌}
use Rattle.dpi_rules.proofs.Noting.{noted_next, noted_last}
use Rattle.sv_check.proofs.modules.note_items.Goals as goal

pub loop-item-preserved : goal.loop-item-preserved
loop-item-preserved c =
    let kept = c.loop-item.invariant.kept in
    let broken = rw kept at c.in_ok-note_item.ensures.broken in
    record {
      kept = c.in_ok-note_item.ensures.kept ∙ kept;
      broken = noted_next c.args.items.now c.loop-item.item-index c.item-item.result c.loop-item-test.true c.item-item.is broken c.loop-item.invariant.broken;
    }

pub returns : goal.returns
returns c = noted_last c.args.items.now c.loop-item.item-index c.loop-item-test.false c.loop-item.invariant.broken
