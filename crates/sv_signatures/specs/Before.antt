-- What a formal takes over from the one before it.
use Rattle.std.specs.Prelude.{ℕ, Bool, true, false, ◌&&◌, ◌||◌, not, is_some, Option, Some, None, List, [], ◌∷◌, if◌then◌else◌}
use Rattle.dpi_rules.specs.declared.violation.Violation.{Violation}
use Rattle.dpi_rules.specs.Order.{violation}
use Rattle.sv_tree.specs.declared.items.Way.{Way}
use Rattle.sv_tree.specs.declared.kinds.Direction.{Direction}
use Rattle.sv_tree.specs.declared.kinds.Direction.TheVariants.{Input}

-- the direction of the formal before and its type, if it has one; and whether there is none before
pub record Before (T : Type 0) : Type 0 where
  pub first : Bool
  pub direction : Direction
  pub type : Option T

-- before the first formal
abbrev pub start : {T : Type 0} → Before T
start = record { first = true; direction = Input; type = None }

-- the direction that is written, else that of the formal before
abbrev pub direction_of : Option Way → Direction → Direction
direction_of None before = before
direction_of (Some way) before = way.direction

-- the type that is written; else none where a direction is written, and that of the formal before where none is
abbrev pub type_of : {T : Type 0} → Option Way → Option T → Option T → Option T
type_of way (Some type) before = Some type
type_of None None before = before
type_of (Some way) None before = None

-- behind a formal that writes this
abbrev pub behind : {T : Type 0} → Option Way → Option T → Before T → Before T
behind way type before =
    record { first = false; direction = direction_of way before.direction; type = type_of way type before.type }

-- no type is written by a first formal, or by one that writes a direction
abbrev pub missing_violations : ℕ → ℕ → Option Way → Bool → Bool → List Violation
missing_violations file name way typed first =
    if not typed && (first || is_some way) then violation file name 10 ∷ [] else []

-- more formals than there may be, at the name of the first one too many
abbrev pub count_violations : ℕ → Option ℕ → List Violation
count_violations file None = []
count_violations file (Some name) = violation file name 27 ∷ []
