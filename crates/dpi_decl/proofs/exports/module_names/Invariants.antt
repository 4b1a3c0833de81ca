use Rattle.std.proofs.Common.{◌≡◌, ◌++◌, drop}
use Rattle.std.specs.Prelude.{flat_map}
use Rattle.dpi_table.specs.Files.{in_file}
use Rattle.dpi_decl.specs.Exports.{item_names}
use Rattle.dpi_decl.proofs.exports.module_names.Given as goal

-- what is listed, and the items left over
abbrev pub invariant-loop-item : goal.invariant-loop-item
invariant-loop-item l =
    let of = item_names (in_file l.numbers) l.placed.file in
    l.list ++ flat_map of (drop l.item-index l.placed.tree.now.items) ≡ flat_map of l.placed.tree.now.items
