use Rattle.std.proofs.Common.{map, flat_map}
use Rattle.dpi_rules.proofs.Noting.{noted_both}
use Rattle.dpi_links.specs.Functions.{bodies_of}
use Rattle.dpi_links.specs.Exports.{told, one_violations, second_exports}
use Rattle.dpi_links.proofs.exported.note_module.Goals as goal

pub returns : goal.returns
returns c =
    let xs = map told c.args.exports.now in
    noted_both c.args.found.now (flat_map (one_violations (bodies_of c.args.bodies.now)) xs) (second_exports xs) c.note_each.ensures c.in_ok-note_seconds.ensures
