-- Lists noted one after another.
use Rattle.std.proofs.Common.{◌≡◌, List, ◌++◌, Option}
use Rattle.dpi_rules.specs.declared.violation.Violation.{Violation}
use Rattle.dpi_rules.specs.Least.{noted}
use Rattle.dpi_rules.proofs.Firsts.{noted-append}

-- two lists are noted one after the other
pub appended : (start : Option Violation) (vs ws : List Violation) → noted start (vs ++ ws) ≡ noted (noted start vs) ws
appended = noted-append
