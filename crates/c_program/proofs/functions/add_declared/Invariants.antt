use Rattle.std.proofs.Common.{◌≡◌, ◌++◌, map, drop}
use Rattle.c_functions.specs.Declarations.{told}
use Rattle.c_program.specs.Functions.{functions_behind, named_behind, named}
use Rattle.c_program.proofs.functions.add_declared.Given as goal

-- the functions so far, and those of the declarations left over
abbrev pub invariant-loop-declaration : goal.invariant-loop-declaration
invariant-loop-declaration l =
    let bodies = named l.bodies in
    let start = named l.initial.before in
    let left = map told (drop l.declaration-index l.declarations) in
    record {
      listed : l.list.items ++ functions_behind bodies (named l.before) left ≡ l.initial.list.items ++ functions_behind bodies start (map told l.declarations);
      names : named_behind (named l.before) left ≡ named_behind start (map told l.declarations);
    }
