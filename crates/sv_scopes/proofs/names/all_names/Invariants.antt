use Rattle.std.proofs.Common.{◌≡◌, ◌++◌, map, drop}
use Rattle.dpi_table.specs.Files.{in_file}
use Rattle.sv_instances.specs.Modules.{told}
use Rattle.sv_scopes.specs.Names.{module_names}
use Rattle.sv_scopes.proofs.names.all_names.Given as goal

-- what is listed, and the modules left over
abbrev pub invariant-loop-placed : goal.invariant-loop-placed
invariant-loop-placed l =
    let of = module_names l.known.declarations.now (in_file l.known.numbers.now) in
    l.table ++ map of (map told (drop l.placed-index l.modules)) ≡ map of (map told l.modules)
