use Rattle.std.proofs.Common.{ap, sym, ◌∙◌}
use Rattle.std.proofs.lemmas.List.Folds.{flat_map-map}
use Rattle.dpi_rules.specs.Least.{noted}
use Rattle.dpi_rules.proofs.Noting.{noted_next, noted_last}
use Rattle.sv_instances.specs.Modules.{told}
use Rattle.sv_check.specs.Modules.{module_violations}
use Rattle.sv_check.proofs.modules.note_modules.Goals as goal

pub loop-placed-preserved : goal.loop-placed-preserved
loop-placed-preserved c =
    noted_next c.args.modules.now c.loop-placed.placed-index c.placed-item.result c.loop-placed-test.true c.placed-item.is c.in_ok-note_module.ensures c.loop-placed.invariant

pub returns : goal.returns
returns c =
    noted_last c.args.modules.now c.loop-placed.placed-index c.loop-placed-test.false c.loop-placed.invariant
    ∙ ap (noted c.args.found.now) (sym (flat_map-map module_violations told c.args.modules.now))
