-- The formals of functions and tasks.
use Rattle.std.specs.Prelude.{ℕ, Bool, is_some, Option, Some, None, option_map, List, [], ◌∷◌, ◌++◌, flat_map, slice_get}
use Rattle.std.specs.Option.{option_copied}
use Rattle.dpi_rules.specs.declared.violation.Violation.{Violation}
use Rattle.sv_tree.specs.declared.items.Formal.{Formal as FormalTree}
use Rattle.sv_tree.specs.declared.types.DataType.{DataType}
use Rattle.sv_shapes.specs.declared.kinds.VarKind.{VarKind}
use Rattle.sv_shapes.specs.Dimensions.{dimension_violations}
use Rattle.sv_shapes.specs.Kinds.{var_kind, kind_violations}
use Rattle.sv_signatures.specs.declared.formals.Formal.{Formal}
use Rattle.sv_signatures.specs.declared.formals.Before.{Before as BeforeKept}
use Rattle.sv_signatures.specs.Before.{Before, start, behind, direction_of, type_of, missing_violations, count_violations}

-- what the code keeps of the formals before
abbrev pub told : BeforeKept → Before DataType
told b = record { first = b.first; direction = b.direction; type = option_copied b.kind }

-- the kind of a formal that has this type, if it has one
abbrev pub kind_by : Option DataType → FormalTree → Option VarKind
kind_by None f = None
kind_by (Some type) f = var_kind type f.dimensions

-- what it violates
abbrev pub kind_violations_by : ℕ → Option DataType → FormalTree → List Violation
kind_violations_by file None f = flat_map (dimension_violations file) f.dimensions
kind_violations_by file (Some type) f = kind_violations file f.name.token type f.dimensions

-- behind a formal
abbrev pub after : FormalTree → Before DataType → Before DataType
after f before = behind f.way f.kind before

-- a formal that stands behind these
abbrev pub formal_of : Before DataType → FormalTree → Formal
formal_of before f =
    record { token = f.name.token; direction = direction_of f.way before.direction; kind = kind_by (type_of f.way f.kind before.type) f }

-- what it violates
abbrev pub formal_violations : ℕ → Before DataType → FormalTree → List Violation
formal_violations file before f =
    missing_violations file f.name.token f.way (is_some f.kind) before.first
    ++ kind_violations_by file (type_of f.way f.kind before.type) f

-- formals, of which the first one stands behind these
abbrev pub formals_behind : Before DataType → List FormalTree → List Formal
formals_behind before [] = []
formals_behind before (f ∷ fs) = formal_of before f ∷ formals_behind (after f before) fs

-- what they violate
abbrev pub violations_behind : ℕ → Before DataType → List FormalTree → List Violation
violations_behind file before [] = []
violations_behind file before (f ∷ fs) = formal_violations file before f ++ violations_behind file (after f before) fs

-- all formals of a list
abbrev pub formals_of : List FormalTree → List Formal
formals_of fs = formals_behind start fs

-- the name of the first formal too many, if there is one
abbrev pub name_too_many : List FormalTree → Option ℕ
name_too_many fs = option_map (λ (f : FormalTree). f.name.token) (slice_get fs 64)

-- what all formals of a list violate
abbrev pub formals_violations : ℕ → List FormalTree → List Violation
formals_violations file fs = violations_behind file start fs ++ count_violations file (name_too_many fs)
