use Rattle.std.proofs.Common.{drop}
use Rattle.dpi_rules.proofs.Noting.{IsNoted}
use Rattle.sv_instances.specs.Modules.{numbers_of}
use Rattle.sv_instances.specs.Instances.{item_unknown}
use Rattle.sv_instances.proofs.instances.note_items.Given as goal

abbrev pub invariant-loop-item : goal.invariant-loop-item
invariant-loop-item l =
    IsNoted (item_unknown (numbers_of l.numbers.numbers) l.placed.file) l.initial.found l.placed.tree.now.items (drop l.item-index l.placed.tree.now.items) l.found
