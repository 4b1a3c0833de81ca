use Rattle.std.proofs.Common.{◌≡◌, IfOk, subst}
use Rattle.dpi_rules.specs.Least.{noted}
use Rattle.sv_walk.specs.Heads as spec
use Rattle.sv_walk.proofs.heads.walk_compared.Goals as goal

pub returns : goal.returns
returns c =
    subst (λ e. IfOk c.note_compared.result (λ x. c.note_compared.new.found ≡ noted c.args.found.now (spec.compared_violations e c.args.token (spec.compared c.args.e.now c.args.items.now)))) c.place_in-place.ensures c.note_compared.ensures
