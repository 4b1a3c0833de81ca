use Rattle.std.proofs.Common.{◌≡◌, ℕ, List, map, drop}
use Rattle.std.specs.Prelude.{◌||◌}
use Rattle.c_functions.specs.Declarations.{told}
use Rattle.c_program.specs.Functions.{has, shared_bodies}
use Rattle.c_program.proofs.functions.shared_bodies.Given as goal

-- the names so far, and those of the files left over, come to the same as all
abbrev pub invariant-loop-declarations : goal.invariant-loop-declarations
invariant-loop-declarations l =
    let files = map (map told) l.table in
    (q : List ℕ) → (has l.names q || shared_bodies (map (map told) (drop l.declarations-index l.table)) q) ≡ shared_bodies files q
