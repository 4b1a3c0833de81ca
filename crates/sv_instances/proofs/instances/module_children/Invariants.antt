use Rattle.std.proofs.Common.{◌≡◌, ◌++◌, drop, flat_map}
use Rattle.sv_instances.specs.Modules.{numbers_of}
use Rattle.sv_instances.specs.Instances.{item_children}
use Rattle.sv_instances.proofs.instances.module_children.Given as goal

abbrev pub invariant-loop-item : goal.invariant-loop-item
invariant-loop-item l =
    let f = item_children (numbers_of l.numbers.numbers) l.placed.file in
    l.list ++ flat_map f (drop l.item-index l.placed.tree.now.items) ≡ flat_map f l.placed.tree.now.items
