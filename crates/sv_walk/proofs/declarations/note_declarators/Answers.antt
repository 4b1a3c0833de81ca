use Rattle.dpi_rules.proofs.Noting.{noted_first, noted_next, noted_last}
use Rattle.sv_judge.specs.Calls.{env_of}
use Rattle.sv_walk.specs.Declarations.{declarator_violations}
use Rattle.sv_walk.proofs.declarations.note_declarators.Goals as goal

pub loop-declarator-init : goal.loop-declarator-init
loop-declarator-init c = noted_first (declarator_violations (env_of c.args.place.now) c.args.data_type.now) c.args.found.now c.args.declarators.now

pub loop-declarator-preserved : goal.loop-declarator-preserved
loop-declarator-preserved c =
    noted_next c.args.declarators.now c.loop-declarator.declarator-index c.declarator-item.result c.loop-declarator-test.true c.declarator-item.is c.in_ok-note_declarator.ensures c.loop-declarator.invariant

pub returns : goal.returns
returns c = noted_last c.args.declarators.now c.loop-declarator.declarator-index c.loop-declarator-test.false c.loop-declarator.invariant
