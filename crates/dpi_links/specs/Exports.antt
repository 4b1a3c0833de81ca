-- Exports, what they export, and what they violate.
use Rattle.std.specs.Prelude.{ℕ, Bool, true, false, not, Option, Some, None, is_some, option_map, slice_get, List, [], ◌∷◌, ◌++◌, map, filter, flat_map, if◌then◌else◌}
use denote.Ref.{Bor}
use Rattle.dpi_rules.specs.declared.violation.Violation.{Violation}
use Rattle.dpi_rules.specs.Order.{violation}
use Rattle.sv_tree.specs.declared.items.Export.{Export}
use Rattle.sv_tree.specs.declared.items.Item.{Item}
use Rattle.sv_tree.specs.declared.items.Item.TheVariants as items
use Rattle.sv_tree.specs.declared.items.Module.{Module}
use Rattle.sv_instances.specs.Modules.{InFile}
use Rattle.sv_names.specs.Names.{Names, no_names}
use Rattle.sv_names.specs.Declaring.{with_all}
use Rattle.sv_names.specs.Declarations.{module_declares}
use Rattle.sv_names.specs.Uses.{exported}
use Rattle.sv_signatures.specs.declared.signatures.Signature.{Signature}
use Rattle.sv_signatures.specs.Signatures.{function_signature, task_signature}
use Rattle.c_functions.specs.Declarations.{Known}
use Rattle.dpi_boundary.specs.Signatures.{same_export}
use Rattle.dpi_items.specs.Names.{export_c_name}
use Rattle.dpi_items.specs.Integers.{formals_violations}
use Rattle.dpi_items.specs.Items.{export_violations, function_violations}
use Rattle.dpi_agree.specs.declared.exports.LinkedExport.{LinkedExport}
use Rattle.dpi_agree.specs.Firsts.{each_broken}
use Rattle.dpi_links.specs.declared.exports.PlacedExport.{PlacedExport}
use Rattle.dpi_links.specs.Firsts.{first_given, by_name}

-- ---- what an export exports

abbrev pub is_subroutine : Item → Bool
is_subroutine (items.Variables v) = false
is_subroutine (items.Import i) = false
is_subroutine (items.Export x) = false
is_subroutine (items.Function f) = true
is_subroutine (items.Task t) = true
is_subroutine (items.Initial k s) = false
is_subroutine (items.Instance m n) = false

-- the functions and tasks of a module, in text order
abbrev pub subroutines_of : Module → List Item
subroutines_of m = filter is_subroutine m.items

-- the names of a module
abbrev pub names_in : Module → Names
names_in m = with_all no_names (module_declares m)

-- the one of this number, if there is one
abbrev pub numbered : List Item → Option ℕ → Option Item
numbered subroutines None = None
numbered subroutines (Some number) = slice_get subroutines number

-- the function or task that a name means, if it means one
abbrev pub meant : Names → List Item → List ℕ → Option Item
meant names subroutines name = numbered subroutines (exported (names name))

abbrev pub item_signature : Item → Option Signature
item_signature (items.Variables v) = None
item_signature (items.Import i) = None
item_signature (items.Export x) = None
item_signature (items.Function f) = Some (function_signature f)
item_signature (items.Task t) = Some (task_signature t)
item_signature (items.Initial k s) = None
item_signature (items.Instance m n) = None

abbrev pub signature_of : Option Item → Option Signature
signature_of None = None
signature_of (Some item) = item_signature item

-- an export, with the file that it stands in, and the function or task that its name means,
-- whatever its word is
pub record Exported : Type 0 where
  pub file : ℕ
  pub tree : Export
  pub item : Option Item
  pub signature : Option Signature

abbrev pub exported_as : ℕ → Export → Option Item → Exported
exported_as file x item = record { file = file; tree = x; item = item; signature = signature_of item }

abbrev pub item_of : Bor Item → Item
item_of b = b.now

-- what the code keeps of it
abbrev pub told : PlacedExport → Exported
told p = record { file = p.file; tree = p.tree.now; item = option_map item_of p.item; signature = p.signature }

-- an item, where a module has these names, and these functions and tasks
abbrev pub item_exports : Names → List Item → ℕ → Item → List Exported
item_exports names subroutines file (items.Variables v) = []
item_exports names subroutines file (items.Import i) = []
item_exports names subroutines file (items.Export x) = exported_as file x (meant names subroutines x.name.bytes) ∷ []
item_exports names subroutines file (items.Function f) = []
item_exports names subroutines file (items.Task t) = []
item_exports names subroutines file (items.Initial k s) = []
item_exports names subroutines file (items.Instance m n) = []

-- the exports of a module, in text order
abbrev pub module_exports : InFile → List Exported
module_exports m = flat_map (item_exports (names_in m.tree) (subroutines_of m.tree) m.file) m.tree.items

-- those of each module
abbrev pub exports_in : List InFile → List (List Exported)
exports_in ms = map module_exports ms

-- ---- by its name in C

-- the name of an export in C, with its place and the signature of what it exports
pub record NamedExport : Type 0 where
  pub file : ℕ
  pub token : ℕ
  pub name : List ℕ
  pub signature : Option Signature

abbrev pub named : Exported → NamedExport
named x = record { file = x.file; token = x.tree.name.token; name = export_c_name x.tree; signature = x.signature }

abbrev pub value_of : Bor Signature → Signature
value_of b = b.now

-- what the code keeps of it
abbrev pub named_told : LinkedExport → NamedExport
named_told l = record { file = l.file; token = l.token; name = l.name.now; signature = option_map value_of l.signature }

abbrev pub name_of : NamedExport → List ℕ
name_of x = x.name

-- the exports of all modules by their names in C, in text order
abbrev pub all_named : List (List Exported) → List NamedExport
all_named table = flat_map (map named) table

-- rule 9 at an export that isn't the first one of its name in C
abbrev pub second_violations : Option NamedExport → NamedExport → List Violation
second_violations None x = []
second_violations (Some first) x = violation x.file x.token 9 ∷ []

-- the second exports of one name in a module
abbrev pub second_exports : List Exported → List Violation
second_exports xs = each_broken name_of second_violations (map named xs)

-- equal signatures; where there is none, it equals every other
abbrev pub agree : Option Signature → Option Signature → Bool
agree None t = true
agree (Some s) None = true
agree (Some s) (Some t) = same_export s t

-- rule 10 at an export whose signature isn't that of the first one of its name in C
abbrev pub unequal_violations : Option NamedExport → NamedExport → List Violation
unequal_violations None x = []
unequal_violations (Some first) x = if agree first.signature x.signature then [] else violation x.file x.token 10 ∷ []

-- the exports of one name in C that are unequal, of all modules
abbrev pub unequal_exports : List (List Exported) → List Violation
unequal_exports table = each_broken name_of unequal_violations (all_named table)

-- ---- one export

-- it is what the export's word says
abbrev pub is_item : Bool → Item → Bool
is_item task (items.Variables v) = false
is_item task (items.Import i) = false
is_item task (items.Export x) = false
is_item task (items.Function f) = not task
is_item task (items.Task t) = task
is_item task (items.Initial k s) = false
is_item task (items.Instance m n) = false

abbrev pub is_meant : Bool → Option Item → Bool
is_meant task None = false
is_meant task (Some item) = is_item task item

-- rule 8 where the name means no function, or no task, as written
abbrev pub meaning_violations : Exported → List Violation
meaning_violations x = if is_meant x.tree.task x.item then [] else violation x.file x.tree.name.token 8 ∷ []

-- what a function with this signature violates that is exported at this name
abbrev pub signed_violations : ℕ → ℕ → Item → Signature → List Violation
signed_violations file name (items.Variables v) s = []
signed_violations file name (items.Import i) s = []
signed_violations file name (items.Export x) s = []
signed_violations file name (items.Function f) s = function_violations file name f s
signed_violations file name (items.Task t) s = formals_violations file t.formals
signed_violations file name (items.Initial k b) s = []
signed_violations file name (items.Instance m n) s = []

-- what is exported, if there is anything
abbrev pub subroutine_violations : ℕ → ℕ → Option Item → Option Signature → List Violation
subroutine_violations file name None s = []
subroutine_violations file name (Some item) None = []
subroutine_violations file name (Some item) (Some s) = signed_violations file name item s

-- rule 14 where the name in C has a body
abbrev pub body_violations : (List ℕ → Option Known) → Exported → List Violation
body_violations bodies x = if is_some (bodies (export_c_name x.tree)) then violation x.file x.tree.name.token 14 ∷ [] else []

-- an export, where names in C have these bodies
abbrev pub one_violations : (List ℕ → Option Known) → Exported → List Violation
one_violations bodies x =
    export_violations x.file x.tree
    ++ meaning_violations x
    ++ subroutine_violations x.file x.tree.name.token x.item x.signature
    ++ body_violations bodies x

-- ---- all of them

-- the exports of a module
abbrev pub module_violations : (List ℕ → Option Known) → List Exported → List Violation
module_violations bodies xs = flat_map (one_violations bodies) xs ++ second_exports xs

-- the exports of all modules
abbrev pub exports_violations : (List ℕ → Option Known) → List (List Exported) → List Violation
exports_violations bodies table = flat_map (module_violations bodies) table ++ unequal_exports table

-- the first export of a name in C
abbrev pub export_of : List NamedExport → List ℕ → Option NamedExport
export_of xs = first_given (by_name name_of Some) xs
