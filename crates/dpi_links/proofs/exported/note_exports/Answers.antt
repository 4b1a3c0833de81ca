use Rattle.std.proofs.Common.{map, flat_map}
use Rattle.dpi_rules.proofs.Noting.{noted_both}
use Rattle.dpi_links.specs.Functions.{bodies_of}
use Rattle.dpi_links.specs.Exports.{told, module_violations, unequal_exports}
use Rattle.dpi_links.proofs.exported.note_exports.Goals as goal

pub returns : goal.returns
returns c =
    let table = map (map told) c.args.table.now in
    noted_both c.args.found.now (flat_map (module_violations (bodies_of c.args.bodies.now)) table) (unequal_exports table) c.in_ok-note_modules.ensures c.in_ok-note_unequal.ensures
