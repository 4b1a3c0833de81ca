use Rattle.std.proofs.Common.{◌≡◌, ◌++◌, flat_map, drop}
use Rattle.c_functions.specs.Inner.{seen}
use Rattle.c_functions.specs.Objects.{names_of}
use Rattle.c_program.specs.Objects.{inner_objects}
use Rattle.c_program.proofs.objects.add_all_inner.Given as goal

-- the objects so far, and those of the declarations left over
abbrev pub invariant-loop-variables : goal.invariant-loop-variables
invariant-loop-variables l =
    let f = inner_objects l.file (names_of l.defines) in
    l.list.items ++ flat_map f (seen (drop l.variables-index l.all)) ≡ l.initial.list.items ++ flat_map f (seen l.all)
