-- All violations of the files of a command.
use Rattle.std.specs.Prelude.{ℕ, ◌+◌, List, [], ◌∷◌, ◌++◌, flat_map}
use Rattle.dpi_rules.specs.declared.violation.Violation.{Violation}
use Rattle.c_tree.specs.declared.file.External.{External}
use Rattle.c_tree.specs.declared.file.External.TheVariants as externals
use Rattle.c_tree.specs.declared.file.CFile.{CFile}
use Rattle.c_forms.specs.Files as forms
use Rattle.c_functions.specs.Types.{function_types, type_violations}
use Rattle.c_functions.specs.Again.{function_violations}
use Rattle.c_functions.specs.Shared.{shared_violations}
use Rattle.c_walk.specs.File as walk

-- what the written type of a function breaks
abbrev pub written_violations : ℕ → External → List Violation
written_violations number (externals.Define d) = []
written_violations number (externals.Function f) = type_violations number f
written_violations number (externals.Variables v) = []

-- what a file of this number breaks: by its form, by the types of its functions, and by names, types and initialisers
abbrev pub file_violations : ℕ → CFile → List Violation
file_violations number f =
    forms.file_violations number f ++ flat_map (written_violations number) f.externals ++ walk.file_violations number (function_types f) f

-- what files break one by one, of which the first one here has this number
abbrev pub files_from : ℕ → List CFile → List Violation
files_from number [] = []
files_from number (f ∷ fs) = file_violations number f ++ files_from (number + 1) fs

-- all violations: of each file, of functions that are declared again, and of objects that files share
abbrev pub violations : List CFile → List Violation
violations files = files_from 0 files ++ function_violations files ++ shared_violations files
