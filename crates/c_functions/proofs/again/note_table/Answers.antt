use Rattle.std.proofs.Common.{◌++◌, map}
use Rattle.dpi_rules.proofs.Noting.{noted_both}
use Rattle.c_functions.specs.declared.again.Compared.TheVariants.{Types, Bodies}
use Rattle.c_functions.specs.Declarations.{told}
use Rattle.c_functions.specs.Again.{shared_violations, static_violations}
use Rattle.c_functions.proofs.again.note_table.Goals as goal

pub returns : goal.returns
returns c =
    let files = map (map told) c.args.table.now in
    let start = c.args.found.now in
    let types = shared_violations Types files in
    let bodies = shared_violations Bodies files in
    let static_types = static_violations Types files in
    noted_both start (types ++ bodies ++ static_types) (static_violations Bodies files)
    (noted_both start (types ++ bodies) static_types
    (noted_both start types bodies c.in_ok-note_shared.ensures c.in_ok-note_shared-2.ensures)
    c.in_ok-note_statics.ensures)
    c.in_ok-note_statics-2.ensures
