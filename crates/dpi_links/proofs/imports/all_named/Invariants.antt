use Rattle.std.proofs.Common.{◌≡◌, ◌++◌, map, drop}
use Rattle.dpi_links.specs.Imports.{told, named, named_told}
use Rattle.dpi_links.proofs.imports.all_named.Given as goal

abbrev pub invariant-loop-import : goal.invariant-loop-import
invariant-loop-import l =
    map named_told l.list ++ map named (map told (drop l.import-index l.imports)) ≡ map named (map told l.imports)
