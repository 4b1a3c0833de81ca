-- Conditions of `if` and loops, and the counts of `repeat`.
use Rattle.std.specs.Prelude.{ℕ, if◌then◌else◌, Option, Some, None, List, [], ◌∷◌}
use Rattle.dpi_rules.specs.declared.violation.Violation.{Violation}
use Rattle.dpi_rules.specs.Order.{violation}
use Rattle.sv_typing.specs.declared.types.Operand.{Operand}
use Rattle.sv_typing.specs.Types.{is_packed, is_condition}

-- no condition, or no count
abbrev pub condition_broken : ℕ → ℕ → Violation
condition_broken file token = violation file token 28

-- a condition, by its first token, is packed or a chandle
abbrev pub condition_violations : ℕ → ℕ → Option Operand → List Violation
condition_violations file token None = []
condition_violations file token (Some o) = if is_condition o.of then [] else condition_broken file token ∷ []

-- a count, by its first token, is packed
abbrev pub count_violations : ℕ → ℕ → Option Operand → List Violation
count_violations file token None = []
count_violations file token (Some o) = if is_packed o.of then [] else condition_broken file token ∷ []
