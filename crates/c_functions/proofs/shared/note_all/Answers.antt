use Rattle.std.proofs.Common.{ap, sym, ◌∙◌}
use Rattle.std.proofs.lemmas.List.Folds.{flat_map-map}
use Rattle.dpi_rules.specs.Least.{noted}
use Rattle.dpi_rules.proofs.Noting.{noted_first, noted_next, noted_last}
use Rattle.c_functions.specs.Objects.{told}
use Rattle.c_functions.specs.Shared.{violations_by, kept_of}
use Rattle.c_functions.proofs.shared.note_all.Goals as goal

pub loop-object-init : goal.loop-object-init
loop-object-init c = noted_first _ c.args.found.now c.args.objects.now

pub loop-object-preserved : goal.loop-object-preserved
loop-object-preserved c =
    noted_next c.args.objects.now c.loop-object.object-index c.object-item.result c.loop-object-test.true c.object-item.is c.note_object.ensures c.loop-object.invariant

pub returns : goal.returns
returns c =
    noted_last c.args.objects.now c.loop-object.object-index c.loop-object-test.false c.loop-object.invariant
    ∙ ap (noted c.args.found.now) (sym (flat_map-map (violations_by (kept_of c.args.definitions.now)) told c.args.objects.now))
