use Rattle.std.proofs.Common.{◌≡◌, ◌++◌, map, drop}
use Rattle.dpi_table.specs.Files.{in_file}
use Rattle.dpi_links.specs.Functions.{bodies_of}
use Rattle.dpi_decl.specs.Functions.{import_function}
use Rattle.dpi_decl.proofs.functions.functions_by.Given as goal

-- what is listed, and the imports left over
abbrev pub invariant-loop-import : goal.invariant-loop-import
invariant-loop-import l =
    let of = import_function (in_file l.numbers) (bodies_of l.bodies) in
    l.list.items ++ map of (drop l.import-index l.imports) ≡ map of l.imports
