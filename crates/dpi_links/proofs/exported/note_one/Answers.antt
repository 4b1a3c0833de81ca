use Rattle.std.proofs.Common.{◌++◌}
use Rattle.dpi_rules.proofs.Noting.{noted_both}
use Rattle.dpi_items.specs.Items.{export_violations}
use Rattle.dpi_links.specs.Functions.{bodies_of}
use Rattle.dpi_links.specs.Exports.{told, meaning_violations, subroutine_violations, body_violations}
use Rattle.dpi_links.proofs.exported.note_one.Goals as goal

pub returns : goal.returns
returns c =
    let x = told c.args.export.now in
    let start = c.args.found.now in
    let own = export_violations x.file x.tree in
    let meaning = meaning_violations x in
    let subroutine = subroutine_violations x.file x.tree.name.token x.item x.signature in
    let two = noted_both start own meaning c.note_export.ensures c.note_meaning.ensures in
    let three = noted_both start (own ++ meaning) subroutine two c.note_subroutine.ensures in
    noted_both start (own ++ meaning ++ subroutine) (body_violations (bodies_of c.args.bodies.now) x) three c.note_body.ensures
