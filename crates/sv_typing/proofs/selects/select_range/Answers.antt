use Rattle.std.proofs.Common.{ap, ◌∙◌}
use Rattle.dpi_rules.specs.Least.{noted}
use Rattle.dpi_rules.proofs.Noting.{noted_both}
use Rattle.sv_shapes.specs.Bounds.{bounds_violations, range_between}
use Rattle.sv_typing.specs.Selects.{range_by}
use Rattle.sv_typing.proofs.selects.select_range.Goals as goal

pub returns-clause-found : goal.returns-clause-found
returns-clause-found c =
    let named = range_by c.args.file c.args.token c.args.selected in
    noted_both
    c.args.found.now
    (bounds_violations c.args.file c.args.left.now c.args.right.now)
    (named (range_between c.args.left.now c.args.right.now)).found
    c.note_bounds.ensures
    (c.range_by.ensures.found ∙ ap (λ p. noted c.note_bounds.new.found (named p).found) c.part_between-part.ensures)
