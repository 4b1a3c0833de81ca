-- What names mean in a program, and which types expressions have.
use Rattle.std.specs.Prelude.{ℕ, Option, Some, List, option_map}
use Rattle.std.specs.Option.{option_and_then}
use Rattle.dpi_table.specs.declared.tables.Tables.{Tables}
use Rattle.dpi_table.specs.Files.{FileValues, in_file}
use Rattle.dpi_table.specs.Firsts.{number_from}
use Rattle.c_base.specs.declared.ctype.CType.{CType}
use Rattle.c_tree.specs.declared.file.CFile.{CFile}
use Rattle.c_functions.specs.Declarations.{known_of}
use Rattle.c_functions.specs.Objects.{objects_of}
use Rattle.c_program.specs.declared.functions.CFunction.{CFunction}
use Rattle.c_program.specs.declared.objects.CObject.{CObject}
use Rattle.c_facts.specs.declared.facts.CMeant.{CMeant}
use Rattle.c_facts.specs.declared.facts.CMeant.TheVariants as meant
use Rattle.c_facts.specs.declared.facts.CFact.{CFact}
use Rattle.c_lookup.specs.declared.lookup.CMeaning.{CMeaning}
use Rattle.c_lookup.specs.declared.lookup.CMeaning.TheVariants as meanings
use Rattle.c_lookup.specs.declared.lookup.CLookup.{CLookup}
use Rattle.c_lookup.specs.Facts.{names_in, names_of, types_of}
use Rattle.c_lookup.specs.Functions.{functions_at}
use Rattle.c_lookup.specs.Objects.{objects_at}

-- the positions of functions and objects, by their lists
abbrev pub function_positions : List CFunction → FileValues ℕ
function_positions = number_from (λ (f : CFunction). f.file) (λ (f : CFunction). f.token) 0

abbrev pub object_positions : List CObject → FileValues ℕ
object_positions = number_from (λ (o : CObject). o.file) (λ (o : CObject). o.token) 0

-- the numbers of functions and objects at the names in these files that declare them
abbrev pub function_numbers : List CFile → List CFunction → FileValues ℕ
function_numbers files functions = functions_at (function_positions functions) (known_of files)

abbrev pub object_numbers : List CFile → List CObject → FileValues ℕ
object_numbers files objects = objects_at (object_positions objects) (objects_of files)

pub record Numbering : Type 0 where
  pub functions : FileValues ℕ
  pub objects : FileValues ℕ

abbrev pub numbering : List CFile → List CFunction → List CObject → Numbering
numbering files functions objects = record { functions = function_numbers files functions; objects = object_numbers files objects }

-- what a name of this file means; None where what it means is in no list
abbrev pub meaning_of : Numbering → ℕ → CMeant → Option CMeaning
meaning_of n file (meant.Object token) = option_map meanings.Object (n.objects file token)
meaning_of n file (meant.Function token) = option_map meanings.Function (n.functions file token)
meaning_of n file (meant.Constant kind value) = Some (meanings.Constant kind value)
meaning_of n file meant.Library = Some meanings.Library

-- what each name means that has something said of it
abbrev pub all_meanings : Numbering → FileValues CMeant → FileValues CMeaning
all_meanings n names file token = option_and_then (meaning_of n file) (names file token)

-- what the name at a token of a file means, where each file has these facts
abbrev pub meaning_in : Numbering → List (List CFact) → FileValues CMeaning
meaning_in n facts = all_meanings n (names_in facts)

-- ---- what the code's tables mean

abbrev pub numbers_of : Tables ℕ → FileValues ℕ
numbers_of = in_file

abbrev pub numbering_of : CLookup → Numbering
numbering_of l = record { functions = in_file l.functions; objects = in_file l.objects }

abbrev pub meanings_of : CLookup → FileValues CMeaning
meanings_of l = all_meanings (numbering_of l) (names_of l.told)

abbrev pub lookup_types : CLookup → FileValues CType
lookup_types l = types_of l.told
