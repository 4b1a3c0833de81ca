use Rattle.std.proofs.Common.{◌≡◌, ◌++◌, drop}
use Rattle.std.specs.Prelude.{flat_map}
use Rattle.sv_walk.specs.Around.{inside, env}
use Rattle.sv_names.specs.Scopes.{scopes_of}
use Rattle.sv_meanings.specs.Declarations.{variables_facts}
use Rattle.sv_meanings.proofs.declarations.add_all_variables.Given as goal

-- what is listed, and the declarations left over
abbrev pub invariant-loop-variables : goal.invariant-loop-variables
invariant-loop-variables l =
    let of = variables_facts (env (inside l.around (scopes_of l.scopes))) in
    l.list.items ++ flat_map of (drop l.variables-index l.declarations) ≡ l.initial.list.items ++ flat_map of l.declarations
