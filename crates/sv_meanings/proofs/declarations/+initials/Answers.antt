use Rattle.std.proofs.Common.{◌∙◌, ap, sym}
use Rattle.std.specs.Prelude.{flat_map}
use Rattle.sv_names.specs.Scopes.{scopes_of}
use Rattle.sv_walk.specs.Around.{inside, env}
use Rattle.sv_meanings.specs.Declarations.{init_facts}
use Rattle.sv_meanings.proofs.Trees.{pattern_is}
use Rattle.sv_meanings.proofs.declarations.+initials.Goals as goal

pub add_init-returns-in-Pattern : goal.add_init-returns-in-Pattern
add_init-returns-in-Pattern t c =
    let e = env (inside c.args.around.now (scopes_of c.args.scopes.now)) in
    let is = ap (init_facts e) c.in-Pattern.is ∙ pattern_is e c.in-Pattern.field-0 c.in-Pattern.parts ∙ ap (flat_map (init_facts e)) (sym c.as_slice.ensures) in
    rw is c.add_parts.ensures
