use Rattle.std.proofs.Common.{◌≡◌, ◌++◌, flat_map, drop}
use Rattle.c_functions.specs.Objects.{names_of}
use Rattle.c_program.specs.Objects.{declarator_objects}
use Rattle.c_program.proofs.objects.add_declarators.Given as goal

-- the objects so far, and those of the declarators left over
abbrev pub invariant-loop-declarator : goal.invariant-loop-declarator
invariant-loop-declarator l =
    let f = declarator_objects l.file (names_of l.defines) l.life l.kind in
    l.list.items ++ flat_map f (drop l.declarator-index l.declarators) ≡ l.initial.list.items ++ flat_map f l.declarators
