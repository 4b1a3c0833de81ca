use Rattle.std.proofs.Common.{◌++◌}
use Rattle.dpi_rules.proofs.Noting.{noted_both}
use Rattle.dpi_items.specs.Items.{string_violations, pure_violations, result_violations}
use Rattle.dpi_items.specs.Integers.{import_formals_violations}
use Rattle.dpi_items.proofs.items.note_import.Goals as goal

pub returns : goal.returns
returns c =
    let file = c.args.file in
    let i = c.args.import.now in
    let s = c.args.signature.now in
    let strings = string_violations file i.text in
    let pures = pure_violations file i s in
    let results = result_violations file i.name.token 3 s.result in
    noted_both c.args.found.now (strings ++ pures ++ results) (import_formals_violations file i.formals)
    (noted_both c.args.found.now (strings ++ pures) results
    (noted_both c.args.found.now strings pures c.note_string.ensures c.note_pure.ensures)
    c.note_result.ensures)
    c.note_integer_import_formals.ensures
