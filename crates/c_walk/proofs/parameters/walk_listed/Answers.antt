use Rattle.std.proofs.Common.{map, drop, ◌+◌, refl}
use Rattle.c_walk.specs.Sight.{in_turn}
use Rattle.c_walk.specs.Around.{around_of}
use Rattle.c_walk.specs.Declarations.{param_walk}
use Rattle.c_walk.proofs.Walking.{turn_next, turn_last}
use Rattle.c_walk.proofs.Filling.{filling_more, filling_last}
use Rattle.c_walk.proofs.parameters.walk_listed.Goals as goal

pub loop-param-init : goal.loop-param-init
loop-param-init c = record { inner_same = refl; found_same = refl }

pub loop-param-preserved : goal.loop-param-preserved
loop-param-preserved c =
    let of = param_walk (around_of c.args.outside.now) in
    let xs = c.args.params.now in
    let i = c.loop-param.param-index in
    let x = c.param-item.result in
    filling_more (of x) (in_turn (map of (drop (i + 1) xs))) (turn_next of xs i x c.loop-param-test.true c.param-item.is) c.in_ok-walk_param.ensures c.loop-param.invariant

pub returns : goal.returns
returns c =
    let of = param_walk (around_of c.args.outside.now) in
    filling_last (turn_last of c.args.params.now c.loop-param.param-index c.loop-param-test.false) c.loop-param.invariant
