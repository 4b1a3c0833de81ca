use Rattle.sv_names.specs.Scopes.{scopes_of}
use Rattle.sv_walk.specs.Around.{inside}
use Rattle.sv_meanings.specs.Items.{item_facts}
use Rattle.sv_meanings.proofs.Walking.{walking_first, walking_next, walking_last}
use Rattle.sv_meanings.proofs.files.add_items.Goals as goal

pub loop-item-init : goal.loop-item-init
loop-item-init c = walking_first (item_facts (inside c.args.around.now (scopes_of c.args.scopes.now))) (scopes_of c.args.scopes.now) c.args.list.now.items c.args.items.now

pub loop-item-preserved : goal.loop-item-preserved
loop-item-preserved c =
    walking_next (λ y s. item_facts (inside c.args.around.now s) y) (scopes_of c.args.scopes.now) c.args.list.now.items c.args.items.now c.loop-item.item-index c.item-item.result c.loop-item-test.true c.item-item.is
    (scopes_of c.loop-item.scopes) (scopes_of c.add_item.new.scopes) c.loop-item.list.items c.add_item.new.list.items c.in_ok-add_item.ensures c.loop-item.invariant

pub returns : goal.returns
returns c =
    walking_last (item_facts (inside c.args.around.now (scopes_of c.args.scopes.now))) (scopes_of c.args.scopes.now) c.args.list.now.items c.args.items.now c.loop-item.item-index c.loop-item-test.false (scopes_of c.loop-item.scopes) c.loop-item.list.items c.loop-item.invariant
