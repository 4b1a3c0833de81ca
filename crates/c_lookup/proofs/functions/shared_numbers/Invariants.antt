use Rattle.std.proofs.Common.{◌≡◌, map, drop}
use Rattle.dpi_table.specs.Files.{in_file}
use Rattle.c_functions.specs.Declarations.{told}
use Rattle.c_lookup.specs.Names.{named, or_names}
use Rattle.c_lookup.specs.Functions.{shared_named}
use Rattle.c_lookup.proofs.functions.shared_numbers.Given as goal

-- the numbers so far, and behind them those of the files left over
abbrev pub invariant-loop-declarations : goal.invariant-loop-declarations
invariant-loop-declarations l =
    let of = shared_named (in_file l.positions) in
    or_names (named l.names) (of (map (map told) (drop l.declarations-index l.table))) ≡ of (map (map told) l.table)
