use Rattle.std.proofs.Common.{map, take}
use Rattle.c_functions.specs.Objects.{told}
use Rattle.c_functions.specs.Shared.{Keeps}
use Rattle.c_functions.proofs.definitions.definitions_of.Given as goal

-- those so far are kept
abbrev pub invariant-loop-object : goal.invariant-loop-object
invariant-loop-object l = Keeps l.definitions (map told (take l.object-index l.objects))
