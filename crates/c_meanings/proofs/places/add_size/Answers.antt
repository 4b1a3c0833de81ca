use Rattle.std.proofs.Common.{◌≡◌, ◌++◌, subst}
use Rattle.std.specs.Prelude.{OnOk}
use Rattle.c_walk.specs.Around.{around_of}
use Rattle.c_facts.specs.Facts.{size_facts}
use Rattle.c_meanings.proofs.places.add_size.Goals as goal

pub returns : goal.returns
returns c =
    let a = around_of c.args.outside.now in
    subst (λ e. OnOk c.add_size.result (c.add_size.new.list.items ≡ c.args.list.now.items ++ size_facts e a.values c.args.size.now)) c.around_in-around.ensures c.add_size.ensures
