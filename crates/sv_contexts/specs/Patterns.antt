-- Assignment patterns `'{` .. `}` (10.9).
use Rattle.std.specs.Prelude.{ℕ, ◌+◌, ◌==◌, if◌then◌else◌, Option, Some, None, List, [], ◌∷◌}
use Rattle.dpi_rules.specs.declared.violation.Violation.{Violation}
use Rattle.dpi_rules.specs.Order.{violation}
use Rattle.dpi_shape.specs.declared.range.Range.{Range}
use Rattle.dpi_shape.specs.Range.{size}
use Rattle.sv_typing.specs.declared.types.ExprType.{ExprType}
use Rattle.sv_typing.specs.declared.types.ExprType.TheVariants as types
use Rattle.sv_typing.specs.Types.{part_type, range_left}

-- a wrong number of parts, or a pattern for something that is no array
abbrev pub pattern_broken : ℕ → ℕ → Violation
pattern_broken file token = violation file token 30

-- the parts are as many as the indices of the first dimension
abbrev pub counted : ℕ → ℕ → ℕ → Option Range → List Violation
counted file token parts None = pattern_broken file token ∷ []
counted file token parts (Some r) = if size r == parts then [] else pattern_broken file token ∷ []

-- what a pattern of so many parts violates at its `'{`, for what has this type
abbrev pub pattern_violations : ℕ → ℕ → Option ExprType → ℕ → List Violation
pattern_violations file token None parts = []
pattern_violations file token (Some (types.Array shape taken)) parts = counted file token parts (range_left shape taken 0)
pattern_violations file token (Some other) parts = pattern_broken file token ∷ []

-- what each part of the pattern is assigned to
abbrev pub part_target : Option ExprType → Option ExprType
part_target None = None
part_target (Some (types.Array shape taken)) = Some (part_type shape (taken + 1))
part_target (Some other) = None
