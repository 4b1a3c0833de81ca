-- The order of violations.
use Rattle.std.specs.Prelude.{◌≡◌, ℕ, ◌==◌, nat_lt, Bool, true, false, Option, Some, None, if◌then◌else◌}
use Rattle.dpi_rules.specs.declared.violation.Violation.{Violation}

-- the rule is broken at this token of this file
abbrev pub violation : ℕ → ℕ → ℕ → Violation
violation file token rule = record { file = file; token = token; rule = rule }

-- by file, then token, then rule
abbrev pub before : Violation → Violation → Bool
before v w =
    if v.file == w.file
    then (if v.token == w.token then nat_lt v.rule w.rule else nat_lt v.token w.token)
    else nat_lt v.file w.file

-- of what was found so far and one more, the one that stands first
abbrev pub lesser : Option Violation → Violation → Option Violation
lesser None v = Some v
lesser (Some w) v = if before v w then Some v else Some w

-- of what was found here and there, the one that stands first
abbrev pub joined : Option Violation → Option Violation → Option Violation
joined found None = found
joined found (Some v) = lesser found v

-- of two different violations exactly one stands before the other, and what stands before does so before all that follow
pub record IsTotalOrder : Type 0 where
  pub irreflexive : (v : Violation) → before v v ≡ false
  pub transitive : (u v w : Violation) → before u v ≡ true → before v w ≡ true → before u w ≡ true
  pub total : (v w : Violation) → before v w ≡ false → before w v ≡ false → v ≡ w
