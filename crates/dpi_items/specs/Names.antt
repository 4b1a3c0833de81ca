-- Names in C of imports and exports.
use Rattle.std.specs.Prelude.{ℕ, Bool, not, ◌||◌, if◌then◌else◌, Option, Some, None, List, [], ◌∷◌}
use denote.Enum.Bare.{sameb}
use Rattle.dpi_lex.specs.declared.token.Kind.TheVariants.{Word}
use Rattle.dpi_rules.specs.declared.violation.Violation.{Violation}
use Rattle.dpi_rules.specs.Order.{violation}
use Rattle.c_tree.specs.contracts.class.Class.{the_type}
use Rattle.c_tree.specs.declared.class.Class.TheVariants as classes
use Rattle.c_tree.specs.Classes.{class_by}
use Rattle.c_library.specs.Reserved.{is_reserved}
use Rattle.sv_tree.specs.declared.leaves.Name.{Name}
use Rattle.sv_tree.specs.declared.items.Import.{Import}
use Rattle.sv_tree.specs.declared.items.Export.{Export}

-- the name before the `=`, else the name of the item
abbrev pub c_name : Option Name → Name → List ℕ
c_name None name = name.bytes
c_name (Some written) name = written.bytes

abbrev pub import_c_name : Import → List ℕ
import_c_name i = c_name i.c_name i.name

abbrev pub export_c_name : Export → List ℕ
export_c_name e = c_name e.c_name e.name

-- a word that C's grammar doesn't read as a name
abbrev pub is_keyword : List ℕ → Bool
is_keyword name = not (sameb the_type (class_by Word name) classes.Name)

-- a keyword, or a name of svdpi.h, or printf
abbrev pub is_taken : List ℕ → Bool
is_taken name = is_keyword name || is_reserved name

-- rule 14 where the name in C is taken
abbrev pub name_violations : ℕ → ℕ → List ℕ → List Violation
name_violations file token name = if is_taken name then violation file token 14 ∷ [] else []

-- at the name of an export
abbrev pub taken_violations : ℕ → Export → List Violation
taken_violations file e = name_violations file e.name.token (export_c_name e)
