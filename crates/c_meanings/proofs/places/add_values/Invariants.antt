use Rattle.std.proofs.Common.{◌≡◌, ◌++◌, drop}
use Rattle.std.specs.Prelude.{flat_map}
use Rattle.c_names.specs.Scopes.{scopes_of}
use Rattle.c_walk.specs.Around.{around_of}
use Rattle.c_meanings.specs.Places.{expr_at}
use Rattle.c_meanings.proofs.places.add_values.Given as goal

-- what is listed, and the expressions left over
abbrev pub invariant-loop-e : goal.invariant-loop-e
invariant-loop-e l =
    let of = expr_at (around_of l.outside) (scopes_of l.scopes) in
    l.list.items ++ flat_map of (drop l.e-index l.es) ≡ l.initial.list.items ++ flat_map of l.es
