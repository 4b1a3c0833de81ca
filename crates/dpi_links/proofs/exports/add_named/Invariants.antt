use Rattle.std.proofs.Common.{◌≡◌, ◌++◌, map, drop}
use Rattle.dpi_links.specs.Exports.{told, named, named_told}
use Rattle.dpi_links.proofs.exports.add_named.Given as goal

abbrev pub invariant-loop-export : goal.invariant-loop-export
invariant-loop-export l =
    map named_told l.list ++ map named (map told (drop l.export-index l.exports)) ≡ map named_told l.initial.list ++ map named (map told l.exports)
