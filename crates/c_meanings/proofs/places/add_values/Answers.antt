use Rattle.c_names.specs.Scopes.{scopes_of}
use Rattle.c_walk.specs.Around.{around_of}
use Rattle.c_meanings.specs.Places.{expr_at}
use Rattle.c_meanings.proofs.Adding.{adding_next}
use Rattle.c_meanings.proofs.places.add_values.Goals as goal

pub loop-e-preserved : goal.loop-e-preserved
loop-e-preserved c =
    let of = expr_at (around_of c.args.outside.now) (scopes_of c.args.scopes.now) in
    (adding_next of c.args.list.now.items c.args.es.now c.loop-e.e-index c.e-item.result c.loop-e-test.true c.e-item.is c.loop-e.list.items c.add_value.new.list.items c.in_ok-add_value.ensures (record { same = c.loop-e.invariant })).same
