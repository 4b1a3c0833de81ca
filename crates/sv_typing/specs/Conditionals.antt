-- Conditionals `?:` (11.4.11).
use Rattle.std.specs.Prelude.{ℕ, ◌&&◌, ◌||◌, if◌then◌else◌, Option, Some, None}
use Rattle.dpi_rules.specs.Order.{joined}
use Rattle.sv_typing.specs.declared.types.Operand.{Operand}
use Rattle.sv_typing.specs.Types.{is_packed, is_condition, is_four}
use Rattle.sv_typing.specs.Judged.{Judged, wrong, unseen, kind_broken}
use Rattle.sv_typing.specs.Operators.{combined, either_four}

-- the condition stands alone, and the branches are each other's context. An unknown condition gives unknown bits
abbrev pub chosen : ℕ → ℕ → Operand → Operand → Operand → Judged
chosen file token condition first second =
    if is_condition condition.of && (is_packed first.of && is_packed second.of)
    then combined first.of second.of (joined first.reach second.reach) (is_four condition.of || either_four first.of second.of)
    else wrong (kind_broken file token)

-- a conditional, by its `?`
abbrev pub conditional : ℕ → ℕ → Option Operand → Option Operand → Option Operand → Judged
conditional file token None first second = unseen
conditional file token (Some c) None second = unseen
conditional file token (Some c) (Some y) None = unseen
conditional file token (Some c) (Some y) (Some n) = chosen file token c y n
