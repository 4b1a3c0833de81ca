use Rattle.dpi_rules.proofs.Noting.{noted_first, noted_next}
use Rattle.sv_forms.proofs.Notes.{all_noted}
use Rattle.sv_forms.specs.Statements.{locals_violations}
use Rattle.sv_forms.proofs.statements.note_locals.Goals as goal

pub loop-each-init : goal.loop-each-init
loop-each-init c = noted_first (locals_violations c.args.file c.args.around) c.args.found.now c.args.variables.now

pub loop-each-preserved : goal.loop-each-preserved
loop-each-preserved c = noted_next c.args.variables.now c.loop-each.each-index c.each-item.result c.loop-each-test.true c.each-item.is c.note_variables.ensures c.loop-each.invariant

pub returns : goal.returns
returns c = all_noted c.args.variables.now c.loop-each.each-index c.loop-each-test.false c.loop-each.invariant
