use Rattle.std.proofs.Common.{drop, ◌+◌}
use Rattle.c_walk.specs.Around.{around_of}
use Rattle.c_walk.specs.File.{external_walk, externals_walk}
use Rattle.c_walk.proofs.Walking.{following_first, following_more, following_last}
use Rattle.c_walk.proofs.Numbered.{externals_next, externals_last}
use Rattle.c_walk.proofs.files.walk_externals.Goals as goal

pub loop-external-init : goal.loop-external-init
loop-external-init c s h = following_first (externals_walk (around_of c.args.outside.now) 0 c.args.externals.now) s c.args.found.now h

pub loop-external-preserved : goal.loop-external-preserved
loop-external-preserved c s h =
    let a = around_of c.args.outside.now in
    let es = c.args.externals.now in
    let i = c.loop-external.external-index in
    let e = c.external-item.result in
    let n = c.loop-external.number in
    let next = c.in_ok-number.number in
    following_more (external_walk a n e) (externals_walk a next (drop (i + 1) es)) (externals_next a n next es i e c.loop-external-test.true c.external-item.is c.in_ok-number.ensures) c.in_ok-walk_external.ensures (c.loop-external.invariant s h)

pub returns : goal.returns
returns c s h =
    following_last (externals_last (around_of c.args.outside.now) c.loop-external.number c.args.externals.now c.loop-external.external-index c.loop-external-test.false) (c.loop-external.invariant s h)
