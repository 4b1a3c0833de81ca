use Rattle.std.proofs.Common.{map, drop}
use Rattle.c_names.specs.Names.{names_of}
use Rattle.c_names.specs.Scopes.{scopes_of}
use Rattle.c_walk.specs.Around.{around_of}
use Rattle.c_meanings.specs.Sight.{in_turn}
use Rattle.c_meanings.specs.Declarations.{param_tells}
use Rattle.c_meanings.proofs.Filling.{IsFilling}
use Rattle.c_meanings.proofs.parameters.add_listed.Given as goal

-- the parameters left over come to the same
abbrev pub invariant-loop-param : goal.invariant-loop-param
invariant-loop-param l =
    let of = param_tells (around_of l.outside) l.has_body in
    IsFilling (in_turn (map of l.params)) (in_turn (map of (drop l.param-index l.params))) (scopes_of l.scopes) (names_of l.initial.scope) l.initial.list.items (names_of l.scope) l.list.items
