use Rattle.dpi_rules.proofs.Noting.{noted_first, noted_next}
use Rattle.c_calls.specs.Refusals.{rules_of}
use Rattle.c_calls.specs.Statements.{in_declarator}
use Rattle.c_calls.proofs.Notes.{all_noted}
use Rattle.c_calls.proofs.variables.note_declarators.Goals as goal

pub loop-declarator-init : goal.loop-declarator-init
loop-declarator-init c = noted_first (in_declarator c.args.file (rules_of c.args.refusals.now)) c.args.found.now c.args.declarators.now

pub loop-declarator-preserved : goal.loop-declarator-preserved
loop-declarator-preserved c = noted_next c.args.declarators.now c.loop-declarator.declarator-index c.declarator-item.result c.loop-declarator-test.true c.declarator-item.is c.note_declarator.ensures c.loop-declarator.invariant

pub returns : goal.returns
returns c = all_noted c.args.declarators.now c.loop-declarator.declarator-index c.loop-declarator-test.false c.loop-declarator.invariant
