use Rattle.std.proofs.Common.{ap, sym, ◌∙◌, map}
use Rattle.std.proofs.lemmas.List.Folds.{flat_map-map}
use Rattle.dpi_rules.specs.Least.{noted}
use Rattle.dpi_rules.proofs.Noting.{noted_first, noted_next, noted_last}
use Rattle.dpi_links.specs.Functions.{bodies_of}
use Rattle.dpi_links.specs.Exports.{told, module_violations}
use Rattle.dpi_links.proofs.exported.note_modules.Goals as goal

pub loop-exports-init : goal.loop-exports-init
loop-exports-init c = noted_first (λ xs. module_violations (bodies_of c.args.bodies.now) (map told xs)) c.args.found.now c.args.table.now

pub loop-exports-preserved : goal.loop-exports-preserved
loop-exports-preserved c =
    let here = rw c.as_slice.ensures at c.in_ok-note_module.ensures in
    noted_next c.args.table.now c.loop-exports.exports-index c.exports-item.result c.loop-exports-test.true c.exports-item.is here c.loop-exports.invariant

pub returns : goal.returns
returns c =
    noted_last c.args.table.now c.loop-exports.exports-index c.loop-exports-test.false c.loop-exports.invariant
    ∙ ap (noted c.args.found.now) (sym (flat_map-map (module_violations (bodies_of c.args.bodies.now)) (map told) c.args.table.now))
