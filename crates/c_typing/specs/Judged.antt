-- Parts of an expression as the rules on types judge them.
use Rattle.std.specs.Prelude.{ℕ, Bool, true, false, Option, Some, None, List, [], ◌∷◌}
use Rattle.dpi_rules.specs.declared.violation.Violation.{Violation}
use Rattle.dpi_rules.specs.Order.{violation}
use Rattle.c_typing.specs.declared.place.Place.{Place}
use Rattle.c_typing.specs.declared.operand.Operand.{Operand}

-- what a part breaks, and what it is where nothing in it is broken
pub record Judged : Type 0 where
  pub found : List Violation
  pub value : Option Operand

-- the rule is broken unless this holds
abbrev pub unless : Bool → ℕ → Option ℕ
unless true rule = None
unless false rule = Some rule

-- the first rule, where it is broken, else the other
abbrev pub or_else : Option ℕ → Option ℕ → Option ℕ
or_else None other = other
or_else (Some rule) other = Some rule

-- the violation of a rule that is broken at the place
abbrev pub rule_at : Place → Option ℕ → List Violation
rule_at p None = []
rule_at p (Some rule) = violation p.file p.token rule ∷ []

-- the operand, where no rule is broken
abbrev pub kept : Option ℕ → Operand → Option Operand
kept None a = Some a
kept (Some rule) a = None

-- an operand at whose place this rule is broken, or none
abbrev pub judged : Place → Option ℕ → Operand → Judged
judged p rule a = record { found = rule_at p rule; value = kept rule a }

-- nothing is looked at, since a part of it has no type
abbrev pub passed_over : Judged
passed_over = record { found = []; value = None }
