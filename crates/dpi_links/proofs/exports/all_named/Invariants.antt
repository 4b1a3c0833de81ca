use Rattle.std.proofs.Common.{◌≡◌, ◌++◌, map, drop}
use Rattle.dpi_links.specs.Exports.{told, named_told, all_named}
use Rattle.dpi_links.proofs.exports.all_named.Given as goal

abbrev pub invariant-loop-exports : goal.invariant-loop-exports
invariant-loop-exports l =
    map named_told l.list ++ all_named (map (map told) (drop l.exports-index l.table)) ≡ all_named (map (map told) l.table)
