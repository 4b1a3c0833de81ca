use Rattle.std.proofs.Common.{◌≡◌, ◌++◌, drop}
use Rattle.std.specs.Prelude.{flat_map}
use Rattle.sv_walk.specs.Around.{inside, env}
use Rattle.sv_names.specs.Scopes.{scopes_of}
use Rattle.sv_meanings.specs.Declarations.{declarator_facts}
use Rattle.sv_meanings.proofs.declarations.add_declarators.Given as goal

-- what is listed, and the variables left over
abbrev pub invariant-loop-declarator : goal.invariant-loop-declarator
invariant-loop-declarator l =
    let of = declarator_facts (env (inside l.around (scopes_of l.scopes))) in
    l.list.items ++ flat_map of (drop l.declarator-index l.declarators) ≡ l.initial.list.items ++ flat_map of l.declarators
