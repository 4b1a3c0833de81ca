use Rattle.std.proofs.Common.{◌≡◌, IfOk, subst}
use Rattle.dpi_rules.specs.Least.{noted}
use Rattle.sv_walk.specs.Changes as spec
use Rattle.sv_walk.proofs.changes.walk_head.Goals as goal

pub returns : goal.returns
returns c =
    subst (λ e. IfOk c.note_head.result (λ x. c.note_head.new.found ≡ noted c.args.found.now (spec.head_violations e c.args.start.now c.args.condition.now c.args.change.now))) c.place_in-place.ensures c.note_head.ensures
