use Rattle.std.proofs.Common.{◌≡◌, drop, map}
use Rattle.dpi_table.specs.Files.{in_file}
use Rattle.dpi_table.specs.Firsts.{or_values}
use Rattle.sv_lookup.specs.Numbers.{places_from, number_in}
use Rattle.sv_lookup.proofs.numbers.Numbers.of.Given as goal

-- the numbers so far, and behind them those of the entries left over
abbrev pub invariant-loop-position : goal.invariant-loop-position
invariant-loop-position g l =
    let place = g.P.HasPlace.place_of in
    or_values (in_file l.tables) (places_from l.position (map place (drop l.position l.list))) ≡ number_in (map place l.list)
