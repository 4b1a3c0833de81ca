use Rattle.std.proofs.Common.{drop, ◌+◌}
use Rattle.c_walk.specs.Around.{around_of}
use Rattle.c_meanings.specs.File.{external_tells, externals_tell}
use Rattle.c_meanings.proofs.Telling.{following_first, following_more, following_last}
use Rattle.c_meanings.proofs.Numbered.{externals_next, externals_last}
use Rattle.c_meanings.proofs.files.add_externals.Goals as goal

pub loop-external-init : goal.loop-external-init
loop-external-init c s h = following_first (externals_tell (around_of c.args.outside.now) 0 c.args.externals.now) s c.args.list.now.items h

pub loop-external-preserved : goal.loop-external-preserved
loop-external-preserved c s h =
    let a = around_of c.args.outside.now in
    let es = c.args.externals.now in
    let i = c.loop-external.external-index in
    let e = c.external-item.result in
    let n = c.loop-external.number in
    let next = c.in_ok-number.number in
    following_more (external_tells a n e) (externals_tell a next (drop (i + 1) es)) (externals_next a n next es i e c.loop-external-test.true c.external-item.is c.in_ok-number.ensures) c.in_ok-add_external.ensures (c.loop-external.invariant s h)

pub returns : goal.returns
returns c s h =
    following_last (externals_last (around_of c.args.outside.now) c.loop-external.number c.args.externals.now c.loop-external.external-index c.loop-external-test.false) (c.loop-external.invariant s h)
