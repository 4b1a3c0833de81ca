use Rattle.sv_instances.specs.Cycles.{parts}
use Rattle.sv_instances.proofs.Reaching.{spread_last}
use Rattle.sv_instances.proofs.cycles.next_layer.Goals as goal

pub returns : goal.returns
returns c = spread_last (parts c.args.children.now) c.args.layer.now c.loop-number.number-index c.loop-number-test.false c.loop-number.invariant
