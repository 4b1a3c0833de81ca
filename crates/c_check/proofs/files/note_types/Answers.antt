use Rattle.dpi_rules.proofs.Noting.{noted_first, noted_next, noted_last}
use Rattle.c_check.specs.Check.{written_violations}
use Rattle.c_check.proofs.files.note_types.Goals as goal

pub loop-external-init : goal.loop-external-init
loop-external-init c = noted_first (written_violations c.args.number) c.args.found.now c.args.externals.now

pub loop-external-preserved : goal.loop-external-preserved
loop-external-preserved c = noted_next c.args.externals.now c.loop-external.external-index c.external-item.result c.loop-external-test.true c.external-item.is c.note_type.ensures c.loop-external.invariant

pub returns : goal.returns
returns c = noted_last c.args.externals.now c.loop-external.external-index c.loop-external-test.false c.loop-external.invariant
