use Rattle.std.proofs.Common.{map, drop, ◌+◌}
use Rattle.c_walk.specs.Around.{around_of}
use Rattle.c_meanings.specs.Sight.{in_turn}
use Rattle.c_meanings.specs.Declarations.{declarator_tells}
use Rattle.c_meanings.proofs.Telling.{following_first, following_more, following_last, turn_next, turn_last}
use Rattle.c_meanings.proofs.declarations.add_declarators.Goals as goal

pub loop-declarator-init : goal.loop-declarator-init
loop-declarator-init c s h =
    let of = declarator_tells (around_of c.args.outside.now) c.args.lasts c.args.tree.now in
    following_first (in_turn (map of c.args.declarators.now)) s c.args.list.now.items h

pub loop-declarator-preserved : goal.loop-declarator-preserved
loop-declarator-preserved c s h =
    let of = declarator_tells (around_of c.args.outside.now) c.args.lasts c.args.tree.now in
    let xs = c.args.declarators.now in
    let i = c.loop-declarator.declarator-index in
    let x = c.declarator-item.result in
    following_more (of x) (in_turn (map of (drop (i + 1) xs))) (turn_next of xs i x c.loop-declarator-test.true c.declarator-item.is) c.in_ok-add_declarator.ensures (c.loop-declarator.invariant s h)

pub returns : goal.returns
returns c s h =
    let of = declarator_tells (around_of c.args.outside.now) c.args.lasts c.args.tree.now in
    following_last (turn_last of c.args.declarators.now c.loop-declarator.declarator-index c.loop-declarator-test.false) (c.loop-declarator.invariant s h)
