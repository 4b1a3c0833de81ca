use Rattle.std.proofs.Common.{◌≡◌, ◌++◌, subst}
use Rattle.std.specs.Prelude.{OnOk}
use Rattle.c_walk.specs.Around.{around_of}
use Rattle.c_facts.specs.Exprs.{expr_facts}
use Rattle.c_meanings.proofs.places.add_value.Goals as goal

pub returns : goal.returns
returns c =
    let a = around_of c.args.outside.now in
    subst (λ e. OnOk c.add_expr.result (c.add_expr.new.list.items ≡ c.args.list.now.items ++ expr_facts e a.values c.args.e.now)) c.around_in-around.ensures c.add_expr.ensures
