use Rattle.sv_names.specs.Scopes.{scopes_of}
use Rattle.sv_walk.specs.Around.{inside, env}
use Rattle.sv_facts.specs.Exprs.{expr_facts, lvalue_facts}
use Rattle.sv_meanings.proofs.Adding.{adds_both}
use Rattle.sv_meanings.proofs.changes.add_change.Goals as goal

pub returns-in_ok-add_changed-in-Compute : goal.returns-in_ok-add_changed-in-Compute
returns-in_ok-add_changed-in-Compute c =
    let e = env (inside c.args.around.now (scopes_of c.args.scopes.now)) in
    let old = c.args.list.now.items in
    rw c.in-Compute.is (adds_both old c.add_changed-in-Compute.new.list.items c.add_value.new.list.items (lvalue_facts e c.in-Compute.lvalue) (expr_facts e c.in-Compute.e) c.add_value.result c.in_ok-add_changed-in-Compute.ensures c.add_value.ensures)
