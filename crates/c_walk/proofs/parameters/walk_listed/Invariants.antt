use Rattle.std.proofs.Common.{map, drop}
use Rattle.c_names.specs.Names.{names_of}
use Rattle.c_names.specs.Scopes.{scopes_of}
use Rattle.c_walk.specs.Sight.{in_turn}
use Rattle.c_walk.specs.Around.{around_of}
use Rattle.c_walk.specs.Declarations.{param_walk}
use Rattle.c_walk.proofs.Filling.{IsFilling}
use Rattle.c_walk.proofs.parameters.walk_listed.Given as goal

-- the parameters left over come to the same
abbrev pub invariant-loop-param : goal.invariant-loop-param
invariant-loop-param l =
    let of = param_walk (around_of l.outside) in
    IsFilling (in_turn (map of l.params)) (in_turn (map of (drop l.param-index l.params))) (scopes_of l.scopes) (names_of l.initial.scope) l.initial.found (names_of l.scope) l.found
