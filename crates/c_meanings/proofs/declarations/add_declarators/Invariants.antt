use Rattle.std.proofs.Common.{◌≡◌, map, drop}
use Rattle.c_names.specs.Scopes.{scopes_of}
use Rattle.c_walk.specs.Sight.{Sight, scopes}
use Rattle.c_walk.specs.Around.{around_of}
use Rattle.c_meanings.specs.Sight.{in_turn}
use Rattle.c_meanings.specs.Declarations.{declarator_tells}
use Rattle.c_meanings.proofs.Telling.{IsFollowing}
use Rattle.c_meanings.proofs.declarations.add_declarators.Given as goal

-- the variables left over come to the same
abbrev pub invariant-loop-declarator : goal.invariant-loop-declarator
invariant-loop-declarator l =
    let of = declarator_tells (around_of l.outside) l.lasts l.tree in
    (s : Sight) → scopes_of l.initial.scopes ≡ scopes s → IsFollowing (in_turn (map of l.declarators)) (in_turn (map of (drop l.declarator-index l.declarators))) s l.initial.list.items (scopes_of l.scopes) l.list.items
