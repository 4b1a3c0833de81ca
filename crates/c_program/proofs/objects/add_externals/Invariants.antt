use Rattle.std.proofs.Common.{◌≡◌, ◌++◌, drop}
use Rattle.c_functions.specs.Objects.{names_of, no_names}
use Rattle.c_program.specs.Objects.{objects_behind}
use Rattle.c_program.proofs.objects.add_externals.Given as goal

-- the objects so far, and those of what is left over behind the defines so far
abbrev pub invariant-loop-external : goal.invariant-loop-external
invariant-loop-external l =
    l.list.items ++ objects_behind l.file (names_of l.defines) (drop l.external-index l.externals) ≡ l.initial.list.items ++ objects_behind l.file no_names l.externals
