use Rattle.std.proofs.Common.{◌≡◌, ◌++◌, map, drop}
use Rattle.c_functions.specs.Declarations.{told}
use Rattle.c_program.specs.Functions.{functions_from, named}
use Rattle.c_program.proofs.functions.add_files.Given as goal

-- the functions so far, and those of the files left over; the shared bodies stay the same
abbrev pub invariant-loop-declarations : goal.invariant-loop-declarations
invariant-loop-declarations l =
    let bodies = (named l.initial.bodies).shared in
    let start = (named l.initial.before).shared in
    record {
      same : (named l.bodies).shared ≡ bodies;
      listed : l.list.items ++ functions_from bodies (named l.before).shared (map (map told) (drop l.declarations-index l.table)) ≡ l.initial.list.items ++ functions_from bodies start (map (map told) l.table);
    }
