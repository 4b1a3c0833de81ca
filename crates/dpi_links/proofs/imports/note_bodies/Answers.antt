use Rattle.std.proofs.Common.{ap, sym, ◌∙◌}
use Rattle.std.proofs.lemmas.List.Folds.{flat_map-map}
use Rattle.dpi_rules.specs.Least.{noted}
use Rattle.dpi_rules.proofs.Noting.{noted_first, noted_next, noted_last}
use Rattle.dpi_links.specs.Functions.{bodies_of}
use Rattle.dpi_links.specs.Imports.{told, body_violations}
use Rattle.dpi_links.proofs.imports.note_bodies.Goals as goal

pub loop-import-init : goal.loop-import-init
loop-import-init c = noted_first (λ i. body_violations (bodies_of c.args.bodies.now) (told i)) c.args.found.now c.args.imports.now

pub loop-import-preserved : goal.loop-import-preserved
loop-import-preserved c =
    noted_next c.args.imports.now c.loop-import.import-index c.import-item.result c.loop-import-test.true c.import-item.is c.in_ok-note_body.ensures c.loop-import.invariant

pub returns : goal.returns
returns c =
    noted_last c.args.imports.now c.loop-import.import-index c.loop-import-test.false c.loop-import.invariant
    ∙ ap (noted c.args.found.now) (sym (flat_map-map (body_violations (bodies_of c.args.bodies.now)) told c.args.imports.now))
