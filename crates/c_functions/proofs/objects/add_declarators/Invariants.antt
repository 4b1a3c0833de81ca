use Rattle.std.proofs.Common.{◌≡◌, ◌++◌, map, drop}
use Rattle.c_functions.specs.Objects.{told, declared_object, names_of}
use Rattle.c_functions.proofs.objects.add_declarators.Given as goal

-- what is listed so far, and the declarators left over
abbrev pub invariant-loop-declarator : goal.invariant-loop-declarator
invariant-loop-declarator l =
    let f = declared_object l.file (names_of l.defines) l.is_extern l.kind in
    map told l.list ++ map f (drop l.declarator-index l.declarators) ≡ map told l.initial.list ++ map f l.declarators
