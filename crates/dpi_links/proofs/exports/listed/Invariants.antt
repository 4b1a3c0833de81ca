use Rattle.std.proofs.Common.{◌≡◌, ◌++◌, map, flat_map, drop}
use Rattle.sv_names.specs.Names.{names_of}
use Rattle.dpi_links.specs.Exports.{told, item_of, item_exports}
use Rattle.dpi_links.proofs.exports.listed.Given as goal

abbrev pub invariant-loop-item : goal.invariant-loop-item
invariant-loop-item l =
    let f = item_exports (names_of l.scope) (map item_of l.subroutines) l.file in
    map told l.list ++ flat_map f (drop l.item-index l.items) ≡ flat_map f l.items
