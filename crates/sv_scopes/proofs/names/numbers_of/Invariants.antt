use Rattle.std.proofs.Common.{◌≡◌, drop}
use Rattle.dpi_table.specs.Files.{in_file}
use Rattle.dpi_table.specs.Firsts.{or_values}
use Rattle.sv_scopes.specs.Names.{numbers_from, numbers_in}
use Rattle.sv_scopes.proofs.names.numbers_of.Given as goal

-- what is numbered, and the declarations left over
abbrev pub invariant-loop-declaration : goal.invariant-loop-declaration
invariant-loop-declaration l = or_values (in_file l.numbers) (numbers_from l.number (drop l.declaration-index l.declarations)) ≡ numbers_in l.declarations
