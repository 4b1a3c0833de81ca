use Rattle.std.proofs.Common.{◌≡◌, drop}
use Rattle.dpi_table.specs.Files.{in_file}
use Rattle.dpi_table.specs.Firsts.{or_values}
use Rattle.dpi_decl.specs.Exports.{numbers_from, numbers_in}
use Rattle.dpi_decl.proofs.exports.numbers_of.Given as goal

-- what is numbered, and the exports left over
abbrev pub invariant-loop-export : goal.invariant-loop-export
invariant-loop-export l = or_values (in_file l.numbers) (numbers_from l.number (drop l.export-index l.exports)) ≡ numbers_in l.exports
