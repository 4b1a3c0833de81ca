use Rattle.std.proofs.Common.{drop, map, None, false}
use Rattle.c_functions.specs.Declarations.{told}
use Rattle.dpi_links.specs.Functions.{bodies_of, first_body}
use Rattle.dpi_links.proofs.Gathered.{IsGathered}
use Rattle.dpi_links.proofs.functions.shared_bodies.Given as goal

-- the bodies so far, and those of the files left over
abbrev pub invariant-loop-declarations : goal.invariant-loop-declarations
invariant-loop-declarations l =
    IsGathered (λ ds. first_body false (map told ds)) (λ q. None) l.table (drop l.declarations-index l.table) (bodies_of l.bodies)
