use Rattle.std.proofs.Common.{◌≡◌, map, drop}
use Rattle.dpi_table.specs.Files.{in_file}
use Rattle.c_functions.specs.Declarations.{told}
use Rattle.c_lookup.specs.Names.{named, or_names}
use Rattle.c_lookup.specs.Functions.{entries_named}
use Rattle.c_lookup.proofs.functions.add_numbers.Given as goal

-- the numbers so far, and behind them those of the declarations left over
abbrev pub invariant-loop-declaration : goal.invariant-loop-declaration
invariant-loop-declaration l =
    let of = entries_named (in_file l.positions) l.is_static in
    or_names (named l.names) (of (map told (drop l.declaration-index l.declarations))) ≡ or_names (named l.initial.names) (of (map told l.declarations))
