use Rattle.std.proofs.Common.{◌≡◌, drop}
use Rattle.dpi_table.specs.Files.{in_file}
use Rattle.dpi_table.specs.Firsts.{number_from, or_values}
use Rattle.c_lookup.proofs.numbers.positions_of.Given as goal

-- the positions so far, and behind them those of the entries left over
abbrev pub invariant-loop-position : goal.invariant-loop-position
invariant-loop-position g l =
    let from = number_from g.P.HasPlace.file_of g.P.HasPlace.token_of in
    or_values (in_file l.numbers) (from l.position (drop l.position l.list)) ≡ from 0 l.list
