use Rattle.std.proofs.Common.{◌≡◌, map, drop}
use Rattle.dpi_table.specs.Files.{in_file}
use Rattle.dpi_table.specs.Firsts.{first_with, or_values}
use Rattle.c_functions.specs.Declarations.{told}
use Rattle.c_lookup.specs.Names.{named}
use Rattle.c_lookup.specs.Functions.{declared_at}
use Rattle.c_lookup.proofs.functions.add_declared.Given as goal

-- the numbers so far, and behind them those of the declarations left over
abbrev pub invariant-loop-declaration : goal.invariant-loop-declaration
invariant-loop-declaration l =
    let of = first_with (declared_at (named l.own) (named l.shared)) in
    or_values (in_file l.numbers) (of (map told (drop l.declaration-index l.declarations))) ≡ or_values (in_file l.initial.numbers) (of (map told l.declarations))
