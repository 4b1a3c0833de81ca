use Rattle.std.proofs.Common.{◌≡◌, drop}
use Rattle.c_names.specs.Scopes.{scopes_of}
use Rattle.c_walk.specs.Sight.{Sight, scopes}
use Rattle.c_walk.specs.Around.{around_of}
use Rattle.c_walk.specs.File.{externals_walk}
use Rattle.c_walk.proofs.Walking.{IsFollowing}
use Rattle.c_walk.proofs.files.walk_externals.Given as goal

-- the external declarations left over come to the same
abbrev pub invariant-loop-external : goal.invariant-loop-external
invariant-loop-external l =
    let a = around_of l.outside in
    (s : Sight) → scopes_of l.initial.scopes ≡ scopes s → IsFollowing (externals_walk a 0 l.externals) (externals_walk a l.number (drop l.external-index l.externals)) s l.initial.found (scopes_of l.scopes) l.found
