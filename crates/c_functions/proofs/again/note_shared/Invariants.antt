use Rattle.std.proofs.Common.{[], map, take, false}
use Rattle.std.specs.Prelude.{filter, flat_map}
use Rattle.c_functions.specs.Declarations.{told}
use Rattle.c_functions.specs.Again.{Walks, is_compared}
use Rattle.c_functions.proofs.again.note_shared.Given as goal

-- the files so far are walked over
abbrev pub invariant-loop-declarations : goal.invariant-loop-declarations
invariant-loop-declarations l =
    Walks l.compared (filter (is_compared l.compared false) (flat_map (λ ds. ds) (map (map told) (take l.declarations-index l.table)))) l.firsts l.initial.found l.found []
