-- What an expression violates, and what it is where it violates nothing.
use Rattle.std.specs.Prelude.{ℕ, nat_lt, Option, Some, None, List, [], ◌∷◌, ◌++◌, if◌then◌else◌}
use Rattle.dpi_rules.specs.declared.violation.Violation.{Violation}
use Rattle.dpi_rules.specs.Order.{violation}
use Rattle.dpi_rules.specs.Least.{least}
use Rattle.sv_typing.specs.declared.types.ExprType.{ExprType}
use Rattle.sv_typing.specs.declared.types.Operand.{Operand}
use Rattle.sv_typing.specs.declared.operators.Part.{Part}

-- what a part violates, and what it is; one that holds a violation has no type
pub record Judged : Type 0 where
  pub found : List Violation
  pub value : Option Operand

-- an expression of this type whose arithmetic is so reached
abbrev pub operand : ExprType → Option Violation → Operand
operand type reach = record { of = type; reach = reach }

-- nothing is violated
abbrev pub fine : ExprType → Option Violation → Judged
fine type reach = record { found = []; value = Some (operand type reach) }

-- this is violated
abbrev pub wrong : Violation → Judged
wrong v = record { found = v ∷ []; value = None }

-- no rule on types looks, since a part has no type
abbrev pub unseen : Judged
unseen = record { found = []; value = None }

-- all that was found before, and then this
abbrev pub behind : List Violation → Judged → Judged
behind vs j = record { found = vs ++ j.found; value = j.value }

-- an operand of a kind that its operator doesn't take
abbrev pub kind_broken : ℕ → ℕ → Violation
kind_broken file token = violation file token 15

-- arithmetic or an ordering past 64 bits
abbrev pub width_broken : ℕ → ℕ → Violation
width_broken file token = violation file token 16

abbrev pub listed : Option Violation → List Violation
listed None = []
listed (Some v) = v ∷ []

-- a context of so many bits comes to an operand: past 64 its arithmetic violates the limit, first where the least violation stands
abbrev pub reached : ℕ → Option Violation → List Violation
reached width reach = if nat_lt 64 width then listed reach else []

-- A whole of so many bits, which is a context of its operands: their arithmetic is so reached. A wider context reaches `outer` in turn.
abbrev pub sized : ℕ → Option Violation → ExprType → Option Violation → Judged
sized width None type outer = fine type outer
sized width (Some v) type outer = if nat_lt 64 width then wrong v else fine type outer

-- what is kept of a part: the least of what it violates
abbrev pub kept : Judged → Part
kept j = record { found = least j.found; value = j.value }
