use Rattle.std.proofs.Common.{ap, ◌∙◌}
use Rattle.dpi_rules.specs.Least.{noted}
use Rattle.dpi_rules.proofs.Noting.{noted_both}
use Rattle.sv_shapes.specs.Bounds.{bounds_violations, range_between}
use Rattle.sv_shapes.specs.Elements.{width_violations}
use Rattle.sv_shapes.proofs.elements.note_range.Goals as goal

pub returns : goal.returns
returns c =
    let r = c.args.range.now in
    noted_both
    c.args.found.now
    (bounds_violations c.args.file r.left r.right)
    (width_violations c.args.file r.token (range_between r.left r.right))
    c.note_bounds.ensures
    (c.note_width.ensures
    ∙ ap (λ o. noted c.note_bounds.new.found (width_violations c.args.file r.token o)) c.range_between-between.ensures)
