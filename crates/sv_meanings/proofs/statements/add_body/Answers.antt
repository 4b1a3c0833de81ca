use Rattle.std.proofs.Common.{refl, flat_map}
use Rattle.sv_names.specs.Scopes.{scopes_of}
use Rattle.sv_walk.specs.Around.{inside, env}
use Rattle.sv_meanings.specs.Declarations.{variables_facts}
use Rattle.sv_meanings.specs.Statements.{in_stmts}
use Rattle.sv_meanings.proofs.Walking.{then_walks}
use Rattle.sv_meanings.proofs.statements.add_body.Goals as goal

pub returns : goal.returns
returns c =
    let s = scopes_of c.args.scopes.now in
    then_walks c.add_stmts.result s s (scopes_of c.add_stmts.new.scopes) c.args.list.now.items c.add_all_variables.new.list.items c.add_stmts.new.list.items
    (flat_map (variables_facts (env (inside c.args.around.now s))) c.args.variables.now) (λ z. in_stmts c.args.stmts.now (inside c.args.around.now z))
    (refl, c.in_ok-add_all_variables.ensures) c.add_stmts.ensures
