use Rattle.std.proofs.Common.{◌≡◌, ℕ, List, map, drop}
use Rattle.std.specs.Prelude.{◌||◌}
use Rattle.std.specs.List.{list_any}
use Rattle.c_functions.specs.Declarations.{told}
use Rattle.c_program.specs.Functions.{has, is_body}
use Rattle.c_program.proofs.functions.add_bodies.Given as goal

-- the names so far, and those of the declarations left over, come to the same as all
abbrev pub invariant-loop-declaration : goal.invariant-loop-declaration
invariant-loop-declaration l =
    (q : List ℕ) → (has l.names q || list_any (is_body l.is_static q) (map told (drop l.declaration-index l.declarations))) ≡ (has l.initial.names q || list_any (is_body l.is_static q) (map told l.declarations))
