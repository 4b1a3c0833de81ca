use Rattle.std.proofs.Common.{◌≡◌, ◌++◌, map, flat_map, drop, true}
use Rattle.c_functions.specs.Inner.{seen}
use Rattle.c_functions.specs.Objects.{told, variables_objects, names_of}
use Rattle.c_functions.proofs.objects.add_externs.Given as goal

-- what is listed so far, and the declarations left over
abbrev pub invariant-loop-variables : goal.invariant-loop-variables
invariant-loop-variables l =
    let f = variables_objects l.file (names_of l.defines) true in
    map told l.list ++ flat_map f (seen (drop l.variables-index l.externs)) ≡ map told l.initial.list ++ flat_map f (seen l.externs)
