-- Formals of type integer.
use Rattle.std.specs.Prelude.{ℕ, Bool, true, false, not, ◌&&◌, is_some, if◌then◌else◌, Option, Some, None, List, [], ◌∷◌, ◌++◌}
use Rattle.dpi_rules.specs.declared.violation.Violation.{Violation}
use Rattle.dpi_rules.specs.Order.{violation}
use Rattle.sv_tree.specs.declared.types.DataType.{DataType}
use Rattle.sv_tree.specs.declared.types.DataType.TheVariants.{Integer}
use Rattle.sv_tree.specs.declared.types.ImportType.{ImportType}
use Rattle.sv_tree.specs.declared.types.ImportType.TheVariants.{Data, Unsized}
use Rattle.sv_tree.specs.declared.items.Way.{Way}
use Rattle.sv_tree.specs.declared.items.Formal.{Formal}
use Rattle.sv_tree.specs.declared.items.ImportFormal.{ImportFormal}

abbrev pub is_integer : DataType → Bool
is_integer (Integer k) = true
is_integer other = false

abbrev pub is_import_integer : ImportType → Bool
is_import_integer (Data type) = is_integer type
is_import_integer (Unsized k kind sign b) = false

-- A formal has the type that it writes. One that writes neither a type nor a direction has that of the one before it.
abbrev pub has_type : {T : Type 0} → (T → Bool) → Option Way → Option T → Bool → Bool
has_type test way (Some type) before = test type
has_type test way None before = before && not (is_some way)

abbrev pub is_integer_formal : Formal → Bool → Bool
is_integer_formal f before = has_type is_integer f.way f.kind before

abbrev pub is_integer_import_formal : ImportFormal → Bool → Bool
is_integer_import_formal f before = has_type is_import_integer f.way f.kind before

-- rule 4 at the name of an integer formal
abbrev pub integer_violations : ℕ → ℕ → Bool → List Violation
integer_violations file name integer = if integer then violation file name 4 ∷ [] else []

-- formals, where the one before them is an integer or isn't
abbrev pub integers_behind : ℕ → Bool → List Formal → List Violation
integers_behind file before [] = []
integers_behind file before (f ∷ fs) =
    integer_violations file f.name.token (is_integer_formal f before) ++ integers_behind file (is_integer_formal f before) fs

-- the same of an import
abbrev pub import_integers_behind : ℕ → Bool → List ImportFormal → List Violation
import_integers_behind file before [] = []
import_integers_behind file before (f ∷ fs) =
    integer_violations file f.name.token (is_integer_import_formal f before)
    ++ import_integers_behind file (is_integer_import_formal f before) fs

-- the formals between parentheses, if there are any
abbrev pub formals_violations : ℕ → Option (List Formal) → List Violation
formals_violations file None = []
formals_violations file (Some fs) = integers_behind file false fs

abbrev pub import_formals_violations : ℕ → Option (List ImportFormal) → List Violation
import_formals_violations file None = []
import_formals_violations file (Some fs) = import_integers_behind file false fs
