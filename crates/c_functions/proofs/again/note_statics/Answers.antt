use Rattle.std.proofs.Common.{[], map, true, ap, sym, ◌∙◌}
use Rattle.std.specs.Prelude.{filter}
use Rattle.std.proofs.lemmas.List.Folds.{flat_map-map}
use Rattle.dpi_rules.specs.Least.{noted}
use Rattle.dpi_rules.proofs.Noting.{noted_first, noted_next, noted_last}
use Rattle.c_functions.specs.Declarations.{told}
use Rattle.c_functions.specs.Again.{violations_behind, is_compared}
use Rattle.c_functions.proofs.again.note_statics.Goals as goal

pub loop-declarations-init : goal.loop-declarations-init
loop-declarations-init c = noted_first _ c.args.found.now c.args.table.now

pub loop-declarations-preserved : goal.loop-declarations-preserved
loop-declarations-preserved c =
    let here = rw c.as_slice.ensures at c.in_ok-note_statics_in.ensures in
    noted_next c.args.table.now c.loop-declarations.declarations-index c.declarations-item.result c.loop-declarations-test.true c.declarations-item.is here c.loop-declarations.invariant

pub returns : goal.returns
returns c =
    let kind = c.args.compared in
    noted_last c.args.table.now c.loop-declarations.declarations-index c.loop-declarations-test.false c.loop-declarations.invariant
    ∙ ap (noted c.args.found.now) (sym (flat_map-map (λ ds. violations_behind kind [] (filter (is_compared kind true) ds)) (map told) c.args.table.now))
