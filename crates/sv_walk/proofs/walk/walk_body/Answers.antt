use Rattle.std.proofs.Common.{refl, flat_map}
use Rattle.sv_names.specs.Scopes.{scopes_of}
use Rattle.sv_walk.specs.Around.{inside, env}
use Rattle.sv_walk.specs.Declarations.{variables_violations}
use Rattle.sv_walk.specs.Walk.{in_stmts}
use Rattle.sv_walk.proofs.Walking.{then_walks}
use Rattle.sv_walk.proofs.walk.walk_body.Goals as goal

pub returns : goal.returns
returns c =
    let s = scopes_of c.args.scopes.now in
    then_walks c.walk_statements.result s s (scopes_of c.walk_statements.new.scopes) c.args.found.now c.walk_all_variables.new.found c.walk_statements.new.found
    (flat_map (variables_violations (env (inside c.args.around.now s))) c.args.variables.now) (λ z. in_stmts c.args.statements.now (inside c.args.around.now z))
    (refl, c.in_ok-walk_all_variables.ensures) c.walk_statements.ensures
