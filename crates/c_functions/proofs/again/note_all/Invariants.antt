use Rattle.std.proofs.Common.{List, map, take}
use Rattle.std.specs.Prelude.{filter}
use Rattle.c_functions.specs.Declarations.{Known, told}
use Rattle.c_functions.specs.Again.{Tells, Walks, is_compared}
use Rattle.c_functions.proofs.again.note_all.Given as goal

-- those so far are walked over
abbrev pub invariant-loop-declaration : goal.invariant-loop-declaration
invariant-loop-declaration l =
    (before : List Known) → Tells l.initial.firsts before → Walks l.compared (filter (is_compared l.compared l.of_static) (map told (take l.declaration-index l.declarations))) l.firsts l.initial.found l.found before
