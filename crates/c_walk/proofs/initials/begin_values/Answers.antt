use Rattle.dpi_rules.proofs.Noting.{noted_first, noted_next, noted_last}
use Rattle.c_names.specs.Scopes.{scopes_of}
use Rattle.c_walk.specs.Around.{around_of}
use Rattle.c_walk.specs.Objects.{begin_violations}
use Rattle.c_walk.proofs.initials.begin_values.Goals as goal

pub loop-e-init : goal.loop-e-init
loop-e-init c = noted_first (begin_violations (around_of c.args.outside.now) (scopes_of c.args.scopes.now) c.args.place c.args.object) c.args.found.now c.args.es.now

pub loop-e-preserved : goal.loop-e-preserved
loop-e-preserved c = noted_next c.args.es.now c.loop-e.e-index c.e-item.result c.loop-e-test.true c.e-item.is c.in_ok-begin_value.ensures c.loop-e.invariant

pub returns : goal.returns
returns c = noted_last c.args.es.now c.loop-e.e-index c.loop-e-test.false c.loop-e.invariant
