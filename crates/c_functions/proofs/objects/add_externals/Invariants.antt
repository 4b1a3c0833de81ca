use Rattle.std.proofs.Common.{◌≡◌, ◌++◌, map, drop}
use Rattle.c_functions.specs.Objects.{told, objects_behind, names_of, no_names}
use Rattle.c_functions.proofs.objects.add_externals.Given as goal

-- what is listed so far, and what is left over behind the defines so far
abbrev pub invariant-loop-external : goal.invariant-loop-external
invariant-loop-external l =
    map told l.list ++ objects_behind l.file (names_of l.defines) (drop l.external-index l.externals) ≡ map told l.initial.list ++ objects_behind l.file no_names l.externals
