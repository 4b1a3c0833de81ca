-- Calls of C functions that have no body.
use Rattle.std.specs.Prelude.{ℕ, ◌+◌, true, Option, Some, None, List, [], ◌∷◌, ◌++◌, map, if◌then◌else◌, slice_get}
use denote.Ref.{Bor}
use Rattle.dpi_rules.specs.declared.violation.Violation.{Violation}
use Rattle.c_tree.specs.declared.file.CFile.{CFile}
use Rattle.sv_signatures.specs.declared.signatures.Signature.{Signature}
use Rattle.c_functions.specs.declared.types.FunctionType.{FunctionType}
use Rattle.c_functions.specs.declared.declarations.Declaration.{Declaration}
use Rattle.c_functions.specs.Declarations.{Known, told}
use Rattle.c_calls.specs.Refusals.{Rules}
use Rattle.c_calls.specs.Files.{in_file}
use Rattle.dpi_boundary.specs.Functions.{fits_export}
use Rattle.dpi_links.specs.Firsts.{first_given, by_name}
use Rattle.dpi_links.specs.Functions.{name_of, first_body}
use Rattle.dpi_links.specs.Exports.{NamedExport}

-- rule 13 where the type isn't one for what is exported; a refused part is passed over
abbrev pub type_rule : Option Signature → Option FunctionType → Option ℕ
type_rule None of = None
type_rule (Some s) None = None
type_rule (Some s) (Some of) = if fits_export s of then None else Some 13

-- rule 12 where nothing of this name is exported
abbrev pub export_rule : Option NamedExport → Option FunctionType → Option ℕ
export_rule None of = Some 12
export_rule (Some x) of = type_rule x.signature of

-- a function that all files share, by its body and its export
abbrev pub shared_rule : Option Known → Option NamedExport → Option FunctionType → Option ℕ
shared_rule (Some body) x of = None
shared_rule None x of = export_rule x of

-- a static function, by its body
abbrev pub static_rule : Option Known → Option ℕ
static_rule None = Some 12
static_rule (Some body) = None

-- the declarations of a file, if there are any
abbrev pub listed : Option (List Known) → List Known
listed None = []
listed (Some ds) = ds

-- what the code keeps of them
abbrev pub row_told : Bor (List Declaration) → List Known
row_told b = map told b.now

module _ (bodies : List ℕ → Option Known) (exports : List ℕ → Option NamedExport) where
  -- the rule that calls of a declared function break, where its file has these static bodies
  abbrev pub rule_of : (List ℕ → Option Known) → Known → Option ℕ
  rule_of statics d = if d.is_static then static_rule (statics d.name) else shared_rule (bodies d.name) (exports d.name) d.of

  -- the same, for the function's name
  abbrev pub rule_given : (List ℕ → Option Known) → Known → List ℕ → Option ℕ
  rule_given statics = by_name name_of (rule_of statics)

  -- by the first declaration of each name that breaks one
  abbrev pub rules_given : (List ℕ → Option Known) → List Known → Rules
  rules_given statics ds = first_given (rule_given statics) ds

  -- the rule that calls of each name break in a file with these declarations
  abbrev pub rules_in : List Known → Rules
  rules_in ds = rules_given (first_body true ds) ds

  -- the calls of the file of this number, which has these declarations
  abbrev pub file_violations : Option (List Known) → ℕ → CFile → List Violation
  file_violations row n f = in_file n (rules_in (listed row)) f

  -- files, of which the first one here has this number, where the table has the declarations of
  -- each
  abbrev pub files_from : List (List Known) → ℕ → List CFile → List Violation
  files_from table n [] = []
  files_from table n (f ∷ fs) = file_violations (slice_get table n) n f ++ files_from table (n + 1) fs

  -- the calls of all files
  abbrev pub calls_violations : List (List Known) → List CFile → List Violation
  calls_violations table files = files_from table 0 files
