use Rattle.std.proofs.Common.{◌≡◌, ◌++◌, drop}
use Rattle.std.specs.Prelude.{flat_map}
use Rattle.sv_walk.specs.Around.{inside, env}
use Rattle.sv_names.specs.Scopes.{scopes_of}
use Rattle.sv_facts.specs.Exprs.{expr_facts}
use Rattle.sv_meanings.proofs.places.add_values.Given as goal

-- what is listed, and the expressions left over
abbrev pub invariant-loop-e : goal.invariant-loop-e
invariant-loop-e l =
    let of = expr_facts (env (inside l.around (scopes_of l.scopes))) in
    l.list.items ++ flat_map of (drop l.e-index l.es) ≡ l.initial.list.items ++ flat_map of l.es
