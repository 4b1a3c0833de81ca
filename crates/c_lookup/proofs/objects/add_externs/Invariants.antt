use Rattle.std.proofs.Common.{◌≡◌, map, drop}
use Rattle.dpi_table.specs.Files.{in_file}
use Rattle.dpi_table.specs.Firsts.{first_with, or_values}
use Rattle.c_functions.specs.Objects.{told}
use Rattle.c_lookup.specs.Names.{named}
use Rattle.c_lookup.specs.Objects.{extern_at}
use Rattle.c_lookup.proofs.objects.add_externs.Given as goal

-- the numbers so far, and behind them those of the declarations left over
abbrev pub invariant-loop-object : goal.invariant-loop-object
invariant-loop-object l =
    let of = first_with (extern_at (named l.names)) in
    or_values (in_file l.numbers) (of (map told (drop l.object-index l.objects))) ≡ or_values (in_file l.initial.numbers) (of (map told l.objects))
