use Rattle.std.proofs.Common.{◌++◌, map, flat_map}
use Rattle.dpi_rules.proofs.Noting.{noted_both}
use Rattle.dpi_links.specs.Functions.{bodies_of}
use Rattle.dpi_links.specs.Imports.{told, own_violations, unequal_imports, body_violations}
use Rattle.dpi_links.proofs.imports.note_imports.Goals as goal

pub returns : goal.returns
returns c =
    let is = map told c.args.imports.now in
    let own = flat_map own_violations is in
    let start = c.args.found.now in
    let both = noted_both start own (unequal_imports is) c.note_own.ensures c.in_ok-note_unequal.ensures in
    noted_both start (own ++ unequal_imports is) (flat_map (body_violations (bodies_of c.args.bodies.now)) is) both c.in_ok-note_bodies.ensures
