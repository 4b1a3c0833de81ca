use Rattle.std.proofs.Common.{◌≡◌, drop}
use Rattle.dpi_table.specs.Firsts.{with_file_values}
use Rattle.c_lookup.specs.Facts.{names_of, types_of, names_told, types_told}
use Rattle.c_lookup.proofs.facts.add_facts.Given as goal

-- what is told, and the facts left over
abbrev pub invariant-loop-fact : goal.invariant-loop-fact
invariant-loop-fact l = record {
  names : with_file_values (names_of l.told) l.file (names_told (drop l.fact-index l.facts)) ≡ with_file_values (names_of l.initial.told) l.file (names_told l.facts);
  types : with_file_values (types_of l.told) l.file (types_told (drop l.fact-index l.facts)) ≡ with_file_values (types_of l.initial.told) l.file (types_told l.facts);
}
