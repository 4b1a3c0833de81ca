use Rattle.std.proofs.Common.{ap, sym, ◌∙◌}
use Rattle.std.proofs.lemmas.List.Folds.{flat_map-map}
use Rattle.dpi_rules.specs.Least.{noted}
use Rattle.dpi_rules.proofs.Noting.{noted_first, noted_next, noted_last}
use Rattle.dpi_links.specs.Imports.{told, own_violations}
use Rattle.dpi_links.proofs.imports.note_own.Goals as goal

pub loop-import-init : goal.loop-import-init
loop-import-init c = noted_first (λ i. own_violations (told i)) c.args.found.now c.args.imports.now

pub loop-import-preserved : goal.loop-import-preserved
loop-import-preserved c =
    noted_next c.args.imports.now c.loop-import.import-index c.import-item.result c.loop-import-test.true c.import-item.is c.note_import.ensures c.loop-import.invariant

pub returns : goal.returns
returns c =
    noted_last c.args.imports.now c.loop-import.import-index c.loop-import-test.false c.loop-import.invariant
    ∙ ap (noted c.args.found.now) (sym (flat_map-map own_violations told c.args.imports.now))
