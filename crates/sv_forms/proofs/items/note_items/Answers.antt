use Rattle.dpi_rules.proofs.Noting.{noted_first, noted_next}
use Rattle.sv_forms.proofs.Notes.{all_noted}
use Rattle.sv_forms.specs.Items.{item_violations}
use Rattle.sv_forms.proofs.items.note_items.Goals as goal

pub loop-item-init : goal.loop-item-init
loop-item-init c = noted_first (item_violations c.args.file) c.args.found.now c.args.items.now

pub loop-item-preserved : goal.loop-item-preserved
loop-item-preserved c = noted_next c.args.items.now c.loop-item.item-index c.item-item.result c.loop-item-test.true c.item-item.is c.note_item.ensures c.loop-item.invariant

pub returns : goal.returns
returns c = all_noted c.args.items.now c.loop-item.item-index c.loop-item-test.false c.loop-item.invariant
