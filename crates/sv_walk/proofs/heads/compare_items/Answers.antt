use Rattle.sv_judge.specs.Calls.{env_of}
use Rattle.sv_walk.specs.Heads.{value_of, item_values}
use Rattle.sv_walk.proofs.Comparing.{keeping_first, keeping_next, keeping_last}
use Rattle.sv_walk.proofs.heads.compare_items.Goals as goal

pub loop-item-init : goal.loop-item-init
loop-item-init c = keeping_first (env_of c.args.place.now) (value_of (env_of c.args.place.now)) item_values c.args.values.now.items c.args.found.now c.args.items.now

pub loop-item-preserved : goal.loop-item-preserved
loop-item-preserved c =
    keeping_next (env_of c.args.place.now) (value_of (env_of c.args.place.now)) item_values c.args.values.now.items c.args.found.now c.args.items.now c.loop-item.item-index c.item-item.result c.loop-item-test.true c.item-item.is
    c.loop-item.values.items c.compare_all.new.values.items c.loop-item.found c.compare_all.new.found (rw c.values_in.ensures at c.in_ok-compare_all.ensures) c.loop-item.invariant

pub returns : goal.returns
returns c =
    keeping_last (env_of c.args.place.now) (value_of (env_of c.args.place.now)) item_values c.args.values.now.items c.args.found.now c.args.items.now c.loop-item.item-index c.loop-item-test.false c.loop-item.values.items c.loop-item.found c.loop-item.invariant
