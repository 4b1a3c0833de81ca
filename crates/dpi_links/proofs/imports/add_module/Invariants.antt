use Rattle.std.proofs.Common.{◌≡◌, ◌++◌, map, flat_map, drop}
use Rattle.dpi_links.specs.Imports.{told, item_imports}
use Rattle.dpi_links.proofs.imports.add_module.Given as goal

abbrev pub invariant-loop-item : goal.invariant-loop-item
invariant-loop-item l =
    let f = item_imports l.placed.file in
    map told l.list ++ flat_map f (drop l.item-index l.placed.tree.now.items) ≡ map told l.initial.list ++ flat_map f l.placed.tree.now.items
