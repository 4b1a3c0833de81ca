use Rattle.std.proofs.Common.{◌∙◌, ap}
use Rattle.c_walk.specs.Around.{values_of, values_behind}
use Rattle.c_walk.proofs.Defining.{defining_next, defining_last}
use Rattle.c_walk.proofs.defines.defines_of.Goals as goal

pub loop-external-preserved : goal.loop-external-preserved
loop-external-preserved c =
    defining_next _ c.args.externals.now c.loop-external.external-index c.external-item.result (values_of c.loop-external.defines) _ c.loop-external-test.true c.external-item.is c.in_ok-add_external.ensures c.loop-external.invariant

pub returns : goal.returns
returns c =
    defining_last _ c.args.externals.now c.loop-external.external-index (values_of c.loop-external.defines) c.loop-external-test.false c.loop-external.invariant
    ∙ ap (λ v. values_behind v c.args.externals.now) c.new-defines.ensures
