-- The C functions that imports call.
use Rattle.std.specs.Prelude.{ℕ, Option, Some, None, option_and_then, List, map, slice_get}
use Rattle.dpi_table.specs.Files.{FileValues}
use Rattle.dpi_table.specs.Firsts.{number_from}
use Rattle.c_tree.specs.declared.file.CFile.{CFile}
use Rattle.c_functions.specs.Declarations.{Known, known_of}
use Rattle.c_program.specs.declared.functions.CFunction.{CFunction}
use Rattle.c_program.specs.Functions.{functions_of}
use Rattle.sv_tree.specs.declared.items.SvFile.{SvFile}
use Rattle.sv_design.specs.declared.imports.Import.{Import}
use Rattle.sv_design.specs.Imports.{imports_in}
use Rattle.dpi_links.specs.Functions.{shared_body}

-- each token of each file with the position of the first function there, where the first of these has this one
abbrev pub numbers_from : ℕ → List CFunction → FileValues ℕ
numbers_from = number_from (λ (f : CFunction). f.file) (λ (f : CFunction). f.token)

-- the position of the first function there
abbrev pub numbers_in : List CFunction → FileValues ℕ
numbers_in fs = numbers_from 0 fs

-- the function that stands at a body, if there is one
abbrev pub body_number : FileValues ℕ → Option Known → Option ℕ
body_number numbers None = None
body_number numbers (Some d) = numbers d.file d.token

-- the function that an import calls, where names in C have these bodies
abbrev pub import_function : FileValues ℕ → (List ℕ → Option Known) → Import → Option ℕ
import_function numbers bodies i = body_number numbers (bodies i.c_name)

-- the same, where files declare these functions, of which a program has those: the body that all files see by a name
abbrev pub function_by : List (List Known) → List CFunction → Import → Option ℕ
function_by files fs = import_function (numbers_in fs) (shared_body files)

-- the function of a program that an import calls, if it has one
abbrev pub called_function : List CFile → Import → Option ℕ
called_function cs = function_by (known_of cs) (functions_of cs)

-- the same by the number of the import
abbrev pub function_of : List SvFile → List CFile → ℕ → Option ℕ
function_of svs cs import = option_and_then (called_function cs) (slice_get (imports_in svs) import)
