use Rattle.std.proofs.Common.{ap, sym, ◌∙◌}
use Rattle.std.proofs.lemmas.List.Folds.{flat_map-map}
use Rattle.dpi_rules.specs.Least.{noted}
use Rattle.dpi_rules.proofs.Noting.{noted_first, noted_next, noted_last}
use Rattle.dpi_links.specs.Functions.{bodies_of}
use Rattle.dpi_links.specs.Exports.{told, one_violations}
use Rattle.dpi_links.proofs.exported.note_each.Goals as goal

pub loop-export-init : goal.loop-export-init
loop-export-init c = noted_first (λ x. one_violations (bodies_of c.args.bodies.now) (told x)) c.args.found.now c.args.exports.now

pub loop-export-preserved : goal.loop-export-preserved
loop-export-preserved c =
    noted_next c.args.exports.now c.loop-export.export-index c.export-item.result c.loop-export-test.true c.export-item.is c.note_one.ensures c.loop-export.invariant

pub returns : goal.returns
returns c =
    noted_last c.args.exports.now c.loop-export.export-index c.loop-export-test.false c.loop-export.invariant
    ∙ ap (noted c.args.found.now) (sym (flat_map-map (one_violations (bodies_of c.args.bodies.now)) told c.args.exports.now))
