use Rattle.dpi_rules.proofs.Noting.{noted_first, noted_next, noted_last}
use Rattle.sv_names.specs.Scopes.{scopes_of}
use Rattle.sv_walk.specs.Around.{inside, env}
use Rattle.sv_walk.specs.Declarations.{variables_violations}
use Rattle.sv_walk.proofs.declarations.walk_all_variables.Goals as goal

pub loop-variables-init : goal.loop-variables-init
loop-variables-init c = noted_first (variables_violations (env (inside c.args.around.now (scopes_of c.args.scopes.now)))) c.args.found.now c.args.declarations.now

pub loop-variables-preserved : goal.loop-variables-preserved
loop-variables-preserved c =
    noted_next c.args.declarations.now c.loop-variables.variables-index c.variables-item.result c.loop-variables-test.true c.variables-item.is c.in_ok-walk_variables.ensures c.loop-variables.invariant

pub returns : goal.returns
returns c = noted_last c.args.declarations.now c.loop-variables.variables-index c.loop-variables-test.false c.loop-variables.invariant
