use Rattle.std.proofs.Common.{◌≡◌, ◌++◌, map, drop}
use Rattle.dpi_table.specs.Files.{in_file}
use Rattle.sv_instances.specs.Modules.{told}
use Rattle.dpi_decl.specs.Exports.{module_names}
use Rattle.dpi_decl.proofs.exports.all_names.Given as goal

-- what is listed, and the modules left over
abbrev pub invariant-loop-placed : goal.invariant-loop-placed
invariant-loop-placed l =
    let of = module_names (in_file l.numbers) in
    l.table ++ map of (map told (drop l.placed-index l.modules)) ≡ map of (map told l.modules)
