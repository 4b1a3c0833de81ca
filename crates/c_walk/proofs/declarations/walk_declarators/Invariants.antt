use Rattle.std.proofs.Common.{◌≡◌, map, drop}
use Rattle.c_names.specs.Scopes.{scopes_of}
use Rattle.c_walk.specs.Sight.{Sight, scopes, in_turn}
use Rattle.c_walk.specs.Around.{around_of}
use Rattle.c_walk.specs.Declarations.{declarator_walk}
use Rattle.c_walk.proofs.Walking.{IsFollowing}
use Rattle.c_walk.proofs.declarations.walk_declarators.Given as goal

-- the variables left over come to the same
abbrev pub invariant-loop-declarator : goal.invariant-loop-declarator
invariant-loop-declarator l =
    let of = declarator_walk (around_of l.outside) l.lasts l.tree in
    (s : Sight) → scopes_of l.initial.scopes ≡ scopes s → IsFollowing (in_turn (map of l.declarators)) (in_turn (map of (drop l.declarator-index l.declarators))) s l.initial.found (scopes_of l.scopes) l.found
