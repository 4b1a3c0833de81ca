-- What names mean in all files, and the types of expressions.
use Rattle.std.specs.Prelude.{ℕ, ◌+◌, List, [], ◌∷◌}
use Rattle.dpi_table.specs.Files.{FileValues}
use Rattle.c_base.specs.declared.ctype.CType.{CType}
use Rattle.c_tree.specs.declared.file.CFile.{CFile}
use Rattle.c_facts.specs.declared.facts.CFact.{CFact}
use Rattle.c_meanings.specs.File.{file_facts}
use Rattle.c_program.specs.Functions.{functions_of}
use Rattle.c_program.specs.Objects.{objects_of}
use Rattle.c_lookup.specs.declared.lookup.CMeaning.{CMeaning}
use Rattle.c_lookup.specs.Facts as told
use Rattle.c_lookup.specs.Meanings.{numbering, meaning_in}

-- the facts of each file, of which the first one here has this number
abbrev pub facts_from : ℕ → List CFile → List (List CFact)
facts_from number [] = []
facts_from number (f ∷ fs) = file_facts number f ∷ facts_from (number + 1) fs

-- the facts of each file
abbrev pub facts_in : List CFile → List (List CFact)
facts_in files = facts_from 0 files

-- what the name at a token of a file means
abbrev pub meanings_in : List CFile → FileValues CMeaning
meanings_in files = meaning_in (numbering files (functions_of files) (objects_of files)) (facts_in files)

-- the type of the expression that begins at a token of a file
abbrev pub types_in : List CFile → FileValues CType
types_in files = told.types_in (facts_in files)
