use Rattle.std.proofs.Common.{[], map, drop, true}
use Rattle.std.specs.Prelude.{filter}
use Rattle.dpi_rules.proofs.Noting.{IsNoted}
use Rattle.c_functions.specs.Declarations.{told}
use Rattle.c_functions.specs.Again.{violations_behind, is_compared}
use Rattle.c_functions.proofs.again.note_statics.Given as goal

-- what is noted so far, and what the files left over break
abbrev pub invariant-loop-declarations : goal.invariant-loop-declarations
invariant-loop-declarations l =
    IsNoted (λ ds. violations_behind l.compared [] (filter (is_compared l.compared true) (map told ds))) l.initial.found l.table (drop l.declarations-index l.table) l.found
