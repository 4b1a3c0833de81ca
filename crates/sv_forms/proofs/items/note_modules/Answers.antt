use Rattle.dpi_rules.proofs.Noting.{noted_first, noted_next}
use Rattle.sv_forms.proofs.Notes.{all_noted}
use Rattle.sv_forms.specs.Items.{module_violations}
use Rattle.sv_forms.proofs.items.note_modules.Goals as goal

pub loop-unit-init : goal.loop-unit-init
loop-unit-init c = noted_first (module_violations c.args.file) c.args.found.now c.args.modules.now

pub loop-unit-preserved : goal.loop-unit-preserved
loop-unit-preserved c = noted_next c.args.modules.now c.loop-unit.unit-index c.unit-item.result c.loop-unit-test.true c.unit-item.is c.note_module.ensures c.loop-unit.invariant

pub returns : goal.returns
returns c = all_noted c.args.modules.now c.loop-unit.unit-index c.loop-unit-test.false c.loop-unit.invariant
