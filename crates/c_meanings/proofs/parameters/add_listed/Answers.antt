use Rattle.std.proofs.Common.{map, drop, ◌+◌, refl}
use Rattle.c_walk.specs.Around.{around_of}
use Rattle.c_meanings.specs.Sight.{in_turn}
use Rattle.c_meanings.specs.Declarations.{param_tells}
use Rattle.c_meanings.proofs.Telling.{turn_next, turn_last}
use Rattle.c_meanings.proofs.Filling.{filling_more, filling_last}
use Rattle.c_meanings.proofs.parameters.add_listed.Goals as goal

pub loop-param-init : goal.loop-param-init
loop-param-init c = record { inner_same = refl; list_same = refl }

pub loop-param-preserved : goal.loop-param-preserved
loop-param-preserved c =
    let of = param_tells (around_of c.args.outside.now) c.args.has_body in
    let xs = c.args.params.now in
    let i = c.loop-param.param-index in
    let x = c.param-item.result in
    filling_more (of x) (in_turn (map of (drop (i + 1) xs))) (turn_next of xs i x c.loop-param-test.true c.param-item.is) c.in_ok-add_param.ensures c.loop-param.invariant

pub returns : goal.returns
returns c =
    let of = param_tells (around_of c.args.outside.now) c.args.has_body in
    filling_last (turn_last of c.args.params.now c.loop-param.param-index c.loop-param-test.false) c.loop-param.invariant
