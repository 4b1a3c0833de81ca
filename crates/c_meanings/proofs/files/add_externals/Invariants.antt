use Rattle.std.proofs.Common.{◌≡◌, drop}
use Rattle.c_names.specs.Scopes.{scopes_of}
use Rattle.c_walk.specs.Sight.{Sight, scopes}
use Rattle.c_walk.specs.Around.{around_of}
use Rattle.c_meanings.specs.File.{externals_tell}
use Rattle.c_meanings.proofs.Telling.{IsFollowing}
use Rattle.c_meanings.proofs.files.add_externals.Given as goal

-- the external declarations left over come to the same
abbrev pub invariant-loop-external : goal.invariant-loop-external
invariant-loop-external l =
    let a = around_of l.outside in
    (s : Sight) → scopes_of l.initial.scopes ≡ scopes s → IsFollowing (externals_tell a 0 l.externals) (externals_tell a l.number (drop l.external-index l.externals)) s l.initial.list.items (scopes_of l.scopes) l.list.items
