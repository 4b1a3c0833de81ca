use Rattle.std.proofs.Common.{◌≡◌, IfOk, subst}
use Rattle.dpi_rules.specs.Least.{noted}
use Rattle.sv_walk.specs.Heads as spec
use Rattle.sv_walk.proofs.heads.walk_count.Goals as goal

pub returns : goal.returns
returns c =
    subst (λ e. IfOk c.note_count.result (λ x. c.note_count.new.found ≡ noted c.args.found.now (spec.count_violations e c.args.e.now))) c.place_in-place.ensures c.note_count.ensures
