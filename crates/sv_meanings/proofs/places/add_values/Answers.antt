use Rattle.sv_names.specs.Scopes.{scopes_of}
use Rattle.sv_walk.specs.Around.{inside, env}
use Rattle.sv_facts.specs.Exprs.{expr_facts}
use Rattle.sv_meanings.proofs.Adding.{adding_next}
use Rattle.sv_meanings.proofs.places.add_values.Goals as goal

pub loop-e-preserved : goal.loop-e-preserved
loop-e-preserved c =
    let of = expr_facts (env (inside c.args.around.now (scopes_of c.args.scopes.now))) in
    (adding_next of c.args.list.now.items c.args.es.now c.loop-e.e-index c.e-item.result c.loop-e-test.true c.e-item.is c.loop-e.list.items c.add_value.new.list.items c.in_ok-add_value.ensures (record { same = c.loop-e.invariant })).same
