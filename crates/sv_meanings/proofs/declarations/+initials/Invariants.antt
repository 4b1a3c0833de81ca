use Rattle.std.proofs.Common.{◌≡◌, ◌++◌, drop}
use Rattle.std.specs.Prelude.{flat_map}
use Rattle.sv_walk.specs.Around.{inside, env}
use Rattle.sv_names.specs.Scopes.{scopes_of}
use Rattle.sv_meanings.specs.Declarations.{init_facts}
use Rattle.sv_meanings.proofs.declarations.+initials.Given as goal

-- what is listed, and the parts left over
abbrev pub invariant-add_parts-loop-part : goal.invariant-add_parts-loop-part
invariant-add_parts-loop-part l =
    let of = init_facts (env (inside l.around (scopes_of l.scopes))) in
    l.list.items ++ flat_map of (drop l.part-index l.parts) ≡ l.initial.list.items ++ flat_map of l.parts
