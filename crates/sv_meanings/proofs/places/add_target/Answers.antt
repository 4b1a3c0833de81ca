use Rattle.std.proofs.Common.{◌≡◌, ◌++◌, subst}
use Rattle.std.specs.Prelude.{OnOk}
use Rattle.sv_facts.specs.Facts.{called_facts}
use Rattle.sv_meanings.proofs.places.add_target.Goals as goal

pub returns : goal.returns
returns c =
    subst (λ e. OnOk c.add_called.result (c.add_called.new.list.items ≡ c.args.list.now.items ++ called_facts e c.args.name.now)) c.place_in-place.ensures c.add_called.ensures
