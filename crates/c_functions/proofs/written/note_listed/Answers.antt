use Rattle.dpi_rules.proofs.Noting.{noted_first, noted_next, noted_last}
use Rattle.c_functions.specs.Params.{param_violations}
use Rattle.c_functions.proofs.written.note_listed.Goals as goal

pub loop-param-init : goal.loop-param-init
loop-param-init c = noted_first (param_violations c.args.file) c.args.found.now c.args.params.now

pub loop-param-preserved : goal.loop-param-preserved
loop-param-preserved c = noted_next c.args.params.now c.loop-param.param-index c.param-item.result c.loop-param-test.true c.param-item.is c.note_param.ensures c.loop-param.invariant

pub returns : goal.returns
returns c = noted_last c.args.params.now c.loop-param.param-index c.loop-param-test.false c.loop-param.invariant
