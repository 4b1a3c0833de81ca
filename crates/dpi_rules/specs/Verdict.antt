-- What a checker answers.
use Rattle.std.specs.Prelude.{◌≡◌, Option, Some, None, Result, Ok, Err, List, []}
use Rattle.dpi_rules.specs.declared.violation.Violation.{Violation}
use Rattle.dpi_rules.specs.declared.fault.CheckFault.{CheckFault}
use Rattle.dpi_rules.specs.declared.fault.CheckFault.TheVariants.{Violation as Violates, NoMemory}
use Rattle.dpi_rules.specs.Least.{IsLeast}

-- the value where nothing was found, else the refusal
abbrev pub verdict : {A : Type 0} → A → Option Violation → Result A CheckFault
verdict value None = Ok value
verdict value (Some v) = Err (Violates v)

-- Ok exactly where nothing is violated, else the least violation, unless memory runs out
abbrev pub IsVerdict : {A : Type 0} → List Violation → Result A CheckFault → Type 0
IsVerdict vs (Ok value) = vs ≡ []
IsVerdict vs (Err (Violates v)) = IsLeast vs v
IsVerdict vs (Err NoMemory) = Unit {0}
