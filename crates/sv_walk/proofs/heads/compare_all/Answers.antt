use Rattle.sv_judge.specs.Calls.{env_of}
use Rattle.sv_walk.specs.Heads.{value_of}
use Rattle.sv_walk.proofs.Comparing.{alone, keeping_first, keeping_next, keeping_all}
use Rattle.sv_walk.proofs.heads.compare_all.Goals as goal

pub loop-e-init : goal.loop-e-init
loop-e-init c = keeping_first (env_of c.args.place.now) (value_of (env_of c.args.place.now)) alone c.args.values.now.items c.args.found.now c.args.es.now

pub loop-e-preserved : goal.loop-e-preserved
loop-e-preserved c =
    keeping_next (env_of c.args.place.now) (value_of (env_of c.args.place.now)) alone c.args.values.now.items c.args.found.now c.args.es.now c.loop-e.e-index c.e-item.result c.loop-e-test.true c.e-item.is
    c.loop-e.values.items c.compare.new.values.items c.loop-e.found c.compare.new.found c.in_ok-compare.ensures c.loop-e.invariant

pub returns : goal.returns
returns c =
    keeping_all (env_of c.args.place.now) (value_of (env_of c.args.place.now)) c.args.values.now.items c.args.found.now c.args.es.now c.loop-e.e-index c.loop-e-test.false c.loop-e.values.items c.loop-e.found c.loop-e.invariant
