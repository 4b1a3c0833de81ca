-- What names mean in a design, and which types expressions have.
use Rattle.std.specs.Prelude.{ℕ, Option, Some, List, option_map}
use Rattle.std.specs.Option.{option_and_then}
use Rattle.dpi_table.specs.Files.{FileValues}
use Rattle.sv_typing.specs.declared.types.ExprType.{ExprType}
use Rattle.sv_facts.specs.declared.facts.Meant.{Meant}
use Rattle.sv_facts.specs.declared.facts.Meant.TheVariants as meant
use Rattle.sv_facts.specs.declared.facts.Fact.{Fact}
use Rattle.sv_design.specs.declared.declarations.Declaration.{Declaration as Declared}
use Rattle.sv_design.specs.declared.subroutines.Subroutine.{Subroutine as Called}
use Rattle.sv_design.specs.declared.imports.Import.{Import as Imported}
use Rattle.sv_design.specs.declared.places.Place.{Place}
use Rattle.sv_lookup.specs.declared.lookup.Meaning.{Meaning}
use Rattle.sv_lookup.specs.declared.lookup.Meaning.TheVariants.{Declaration, Subroutine, Import, Block, Module}
use Rattle.sv_lookup.specs.declared.lookup.Lookup.{Lookup}
use Rattle.sv_lookup.specs.Numbers.{Positions, number_in, numbers_of}
use Rattle.sv_lookup.specs.Facts.{names_in, names_of, types_of}

-- the positions of what a design declares, in the list of its kind
pub record Numbering : Type 0 where
  pub declarations : Positions
  pub subroutines : Positions
  pub imports : Positions
  pub blocks : Positions

-- ---- where the entries of each list stand

abbrev pub declaration_place : Declared → Place
declaration_place d = record { file = d.file; token = d.token }

abbrev pub subroutine_place : Called → Place
subroutine_place s = record { file = s.file; token = s.token }

abbrev pub import_place : Imported → Place
import_place i = record { file = i.file; token = i.token }

-- by the places of each list
abbrev pub numbering : List Place → List Place → List Place → List Place → Numbering
numbering declarations subroutines imports blocks = record {
  declarations = number_in declarations;
  subroutines = number_in subroutines;
  imports = number_in imports;
  blocks = number_in blocks;
}

-- what a name of this file means; None where no list has an entry at the declared name
abbrev pub meaning_of : Numbering → ℕ → Meant → Option Meaning
meaning_of n file (meant.Declaration token) = option_map Declaration (n.declarations file token)
meaning_of n file (meant.Subroutine token) = option_map Subroutine (n.subroutines file token)
meaning_of n file (meant.Import token) = option_map Import (n.imports file token)
meaning_of n file (meant.Block token) = option_map Block (n.blocks file token)
meaning_of n file meant.Module = Some Module

-- what each name means that has something said of it
abbrev pub meanings : Numbering → FileValues Meant → FileValues Meaning
meanings n names file token = option_and_then (meaning_of n file) (names file token)

-- what the name at a token of a file means, where each file has these facts
abbrev pub meaning_in : Numbering → List (List Fact) → FileValues Meaning
meaning_in n files = meanings n (names_in files)

-- ---- what the code's tables mean

abbrev pub numbering_of : Lookup → Numbering
numbering_of l = record {
  declarations = numbers_of l.declarations;
  subroutines = numbers_of l.subroutines;
  imports = numbers_of l.imports;
  blocks = numbers_of l.blocks;
}

abbrev pub meanings_of : Lookup → FileValues Meaning
meanings_of l = meanings (numbering_of l) (names_of l.told)

abbrev pub lookup_types : Lookup → FileValues ExprType
lookup_types l = types_of l.told
