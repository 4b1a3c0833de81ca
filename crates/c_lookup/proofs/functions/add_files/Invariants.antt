use Rattle.std.proofs.Common.{◌≡◌, map, drop}
use Rattle.dpi_table.specs.Files.{in_file}
use Rattle.dpi_table.specs.Firsts.{first_with, or_values}
use Rattle.c_functions.specs.Declarations.{told}
use Rattle.c_lookup.specs.Names.{named}
use Rattle.c_lookup.specs.Functions.{file_at}
use Rattle.c_lookup.proofs.functions.add_files.Given as goal

-- the numbers so far, and behind them those of the files left over
abbrev pub invariant-loop-declarations : goal.invariant-loop-declarations
invariant-loop-declarations l =
    let of = first_with (file_at (in_file l.positions) (named l.shared)) in
    or_values (in_file l.numbers) (of (map (map told) (drop l.declarations-index l.table))) ≡ or_values (in_file l.initial.numbers) (of (map (map told) l.table))
