use Rattle.dpi_rules.proofs.Noting.{noted_first, noted_next}
use Rattle.c_calls.specs.Refusals.{rules_of}
use Rattle.c_calls.specs.Files.{in_external}
use Rattle.c_calls.proofs.Notes.{all_noted}
use Rattle.c_calls.proofs.files.note_externals.Goals as goal

pub loop-external-init : goal.loop-external-init
loop-external-init c = noted_first (in_external c.args.file (rules_of c.args.refusals.now)) c.args.found.now c.args.externals.now

pub loop-external-preserved : goal.loop-external-preserved
loop-external-preserved c = noted_next c.args.externals.now c.loop-external.external-index c.external-item.result c.loop-external-test.true c.external-item.is c.note_external.ensures c.loop-external.invariant

pub returns : goal.returns
returns c = all_noted c.args.externals.now c.loop-external.external-index c.loop-external-test.false c.loop-external.invariant
