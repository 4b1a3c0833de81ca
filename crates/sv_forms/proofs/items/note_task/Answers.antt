use Rattle.dpi_rules.proofs.Noting.{noted_both}
use Rattle.sv_forms.specs.declared.around.Surroundings.TheVariants.{Plain}
use Rattle.sv_forms.specs.Labels.{end_violations}
use Rattle.sv_forms.specs.Items.{body_violations, outside, is_automatic}
use Rattle.sv_forms.proofs.items.note_task.Goals as goal

pub returns : goal.returns
returns c =
    let f = c.args.task.now in
    let body = rw c.outside-around.ensures at c.note_body.ensures in
    let body = rw c.is_automatic.ensures at body in
    noted_both
    c.args.found.now
    (body_violations c.args.file (outside Plain (is_automatic f.life)) f.body)
    (end_violations c.args.file f.name f.end)
    body
    c.note_end.ensures
