-- Imports, and what they violate by what else is linked.
use Rattle.std.specs.Prelude.{ℕ, Option, Some, None, List, [], ◌∷◌, ◌++◌, map, flat_map, if◌then◌else◌}
use Rattle.dpi_rules.specs.declared.violation.Violation.{Violation}
use Rattle.dpi_rules.specs.Order.{violation}
use Rattle.sv_tree.specs.declared.items.Import.{Import}
use Rattle.sv_tree.specs.declared.items.Item.{Item}
use Rattle.sv_tree.specs.declared.items.Item.TheVariants as items
use Rattle.sv_instances.specs.Modules.{InFile}
use Rattle.sv_signatures.specs.declared.signatures.ImportSignature.{ImportSignature}
use Rattle.sv_signatures.specs.Signatures.{import_signature}
use Rattle.c_functions.specs.declared.types.FunctionType.{FunctionType}
use Rattle.c_functions.specs.Declarations.{Known}
use Rattle.dpi_boundary.specs.Functions.{fits_import}
use Rattle.dpi_boundary.specs.Signatures.{same_import}
use Rattle.dpi_items.specs.Names.{import_c_name}
use Rattle.dpi_items.specs.Items.{import_violations}
use Rattle.dpi_agree.specs.declared.imports.LinkedImport.{LinkedImport}
use Rattle.dpi_agree.specs.Firsts.{each_broken}
use Rattle.dpi_links.specs.declared.imports.PlacedImport.{PlacedImport}

-- an import, with the file that it stands in and its signature
pub record Imported : Type 0 where
  pub file : ℕ
  pub tree : Import
  pub signature : ImportSignature

abbrev pub imported : ℕ → Import → Imported
imported file i = record { file = file; tree = i; signature = import_signature i }

-- what the code keeps of it
abbrev pub told : PlacedImport → Imported
told p = record { file = p.file; tree = p.tree.now; signature = p.signature }

abbrev pub item_imports : ℕ → Item → List Imported
item_imports file (items.Variables v) = []
item_imports file (items.Import i) = imported file i ∷ []
item_imports file (items.Export x) = []
item_imports file (items.Function f) = []
item_imports file (items.Task t) = []
item_imports file (items.Initial k s) = []
item_imports file (items.Instance m n) = []

-- the imports of a module, in text order
abbrev pub module_imports : InFile → List Imported
module_imports m = flat_map (item_imports m.file) m.tree.items

-- those of all modules
abbrev pub imports_in : List InFile → List Imported
imports_in ms = flat_map module_imports ms

-- ---- by its name in C

-- the name of an import in C, with its place and its signature
pub record NamedImport : Type 0 where
  pub file : ℕ
  pub token : ℕ
  pub name : List ℕ
  pub signature : ImportSignature

abbrev pub named : Imported → NamedImport
named i = record { file = i.file; token = i.tree.name.token; name = import_c_name i.tree; signature = i.signature }

-- what the code keeps of it
abbrev pub named_told : LinkedImport → NamedImport
named_told l = record { file = l.file; token = l.token; name = l.name.now; signature = l.signature.now }

abbrev pub name_of : NamedImport → List ℕ
name_of i = i.name

-- rule 5 at an import whose signature isn't that of the first one of its name in C
abbrev pub unequal_violations : Option NamedImport → NamedImport → List Violation
unequal_violations None i = []
unequal_violations (Some first) i = if same_import first.signature i.signature then [] else violation i.file i.token 5 ∷ []

-- the imports of one name in C that are unequal
abbrev pub unequal_imports : List Imported → List Violation
unequal_imports is = each_broken name_of unequal_violations (map named is)

-- ---- with the C function that it calls

-- this rule, if there is one, at a token
abbrev pub broken : ℕ → ℕ → Option ℕ → List Violation
broken file token None = []
broken file token (Some rule) = violation file token rule ∷ []

-- rule 7 where the type isn't one for the import; a refused type is passed over
abbrev pub type_rule : ImportSignature → Option FunctionType → Option ℕ
type_rule s None = None
type_rule s (Some of) = if fits_import s of then None else Some 7

-- rule 6 where there is no body
abbrev pub body_rule : ImportSignature → Option Known → Option ℕ
body_rule s None = Some 6
body_rule s (Some d) = type_rule s d.of

-- an import, where names in C have these bodies
abbrev pub body_violations : (List ℕ → Option Known) → Imported → List Violation
body_violations bodies i = broken i.file i.tree.name.token (body_rule i.signature (bodies (import_c_name i.tree)))

-- ---- all of them

abbrev pub own_violations : Imported → List Violation
own_violations i = import_violations i.file i.tree i.signature

-- what imports violate: each by itself, beside the first of its name, and by its C function
abbrev pub imports_violations : (List ℕ → Option Known) → List Imported → List Violation
imports_violations bodies is = flat_map own_violations is ++ unequal_imports is ++ flat_map (body_violations bodies) is
