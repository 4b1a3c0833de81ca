-- What names mean in all files, and the types of expressions.
use Rattle.std.specs.Prelude.{ℕ, ◌+◌, List, [], ◌∷◌, map}
use Rattle.dpi_table.specs.Files.{FileValues}
use Rattle.sv_tree.specs.declared.items.SvFile.{SvFile}
use Rattle.sv_typing.specs.declared.types.ExprType.{ExprType}
use Rattle.sv_facts.specs.declared.facts.Fact.{Fact}
use Rattle.sv_meanings.specs.Files.{file_facts}
use Rattle.sv_design.specs.Items.{declarations_in}
use Rattle.sv_design.specs.Subroutines.{subroutines_in}
use Rattle.sv_design.specs.Imports.{imports_in}
use Rattle.sv_design.specs.Places.{blocks_in}
use Rattle.sv_lookup.specs.declared.lookup.Meaning.{Meaning}
use Rattle.sv_lookup.specs.Facts as told
use Rattle.sv_lookup.specs.Meanings.{Numbering, numbering, declaration_place, subroutine_place, import_place, meaning_in}

-- the facts of each file, of which the first one here has this number
abbrev pub facts_from : ℕ → List SvFile → List (List Fact)
facts_from number [] = []
facts_from number (f ∷ fs) = file_facts number f ∷ facts_from (number + 1) fs

-- the facts of each file
abbrev pub facts_in : List SvFile → List (List Fact)
facts_in files = facts_from 0 files

-- the numbers of what is declared, by its place
abbrev pub numbering_in : List SvFile → Numbering
numbering_in files =
    numbering (map declaration_place (declarations_in files)) (map subroutine_place (subroutines_in files)) (map import_place (imports_in files)) (blocks_in files)

-- what the name at a token of a file means
abbrev pub meanings_in : List SvFile → FileValues Meaning
meanings_in files = meaning_in (numbering_in files) (facts_in files)

-- the type of the expression that begins at a token of a file
abbrev pub types_in : List SvFile → FileValues ExprType
types_in files = told.types_in (facts_in files)
