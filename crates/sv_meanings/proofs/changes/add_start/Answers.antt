use Rattle.sv_names.specs.Scopes.{scopes_of}
use Rattle.sv_walk.specs.Around.{inside, env}
use Rattle.sv_facts.specs.Exprs.{expr_facts, lvalue_facts}
use Rattle.sv_meanings.specs.Declarations.{declares}
use Rattle.sv_meanings.proofs.Adding.{adds_both}
use Rattle.sv_meanings.proofs.changes.add_start.Goals as goal

pub returns-in_ok-add_declared-in-Declare : goal.returns-in_ok-add_declared-in-Declare
returns-in_ok-add_declared-in-Declare c =
    let e = env (inside c.args.around.now (scopes_of c.args.scopes.now)) in
    let old = c.args.list.now.items in
    rw c.in-Declare.is (adds_both old c.add_declared.new.list.items c.add_value.new.list.items (declares c.in-Declare.name) (expr_facts e c.in-Declare.e) c.add_value.result c.in_ok-add_declared-in-Declare.ensures c.add_value.ensures)

pub returns-in_ok-add_changed-in-Assign : goal.returns-in_ok-add_changed-in-Assign
returns-in_ok-add_changed-in-Assign c =
    let e = env (inside c.args.around.now (scopes_of c.args.scopes.now)) in
    let old = c.args.list.now.items in
    rw c.in-Assign.is (adds_both old c.add_changed.new.list.items c.add_value-in-Assign.new.list.items (lvalue_facts e c.in-Assign.lvalue) (expr_facts e c.in-Assign.e) c.add_value-in-Assign.result c.in_ok-add_changed-in-Assign.ensures c.add_value-in-Assign.ensures)
