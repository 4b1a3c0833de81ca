use Rattle.std.proofs.Common.{◌≡◌, map, drop}
use Rattle.dpi_table.specs.Files.{in_file}
use Rattle.c_functions.specs.Objects.{told}
use Rattle.c_lookup.specs.Names.{named, or_names}
use Rattle.c_lookup.specs.Objects.{objects_named}
use Rattle.c_lookup.proofs.objects.defined_numbers.Given as goal

-- the numbers so far, and behind them those of the objects left over
abbrev pub invariant-loop-object : goal.invariant-loop-object
invariant-loop-object l =
    let of = objects_named (in_file l.positions) in
    or_names (named l.names) (of (map told (drop l.object-index l.objects))) ≡ of (map told l.objects)
