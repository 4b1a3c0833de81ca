use Rattle.std.proofs.Common.{[]}
use Rattle.sv_judge.specs.Calls.{env_of}
use Rattle.sv_walk.specs.Plain as spec
use Rattle.sv_walk.proofs.Comparing.{alone, keeping_next, keeping_all}
use Rattle.sv_walk.proofs.plain.all_shown.Goals as goal

pub loop-e-preserved : goal.loop-e-preserved
loop-e-preserved c =
    keeping_next (env_of c.args.place.now) (spec.shown (env_of c.args.place.now)) alone [] c.args.found.now c.args.es.now c.loop-e.e-index c.e-item.result c.loop-e-test.true c.e-item.is
    c.loop-e.args.items c.shown.new.args.items c.loop-e.found c.shown.new.found c.in_ok-shown.ensures c.loop-e.invariant

pub returns : goal.returns
returns c =
    keeping_all (env_of c.args.place.now) (spec.shown (env_of c.args.place.now)) [] c.args.found.now c.args.es.now c.loop-e.e-index c.loop-e-test.false c.loop-e.args.items c.loop-e.found c.loop-e.invariant
