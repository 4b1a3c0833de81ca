use Rattle.std.proofs.Common.{◌≡◌, drop}
use Rattle.dpi_table.specs.Files.{in_file}
use Rattle.dpi_table.specs.Firsts.{or_values}
use Rattle.dpi_decl.specs.Functions.{numbers_from, numbers_in}
use Rattle.dpi_decl.proofs.functions.numbers_of.Given as goal

-- what is numbered, and the functions left over
abbrev pub invariant-loop-function : goal.invariant-loop-function
invariant-loop-function l = or_values (in_file l.numbers) (numbers_from l.number (drop l.function-index l.functions)) ≡ numbers_in l.functions
