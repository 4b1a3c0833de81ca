use Rattle.dpi_rules.proofs.Noting.{noted_first, noted_next, noted_last}
use Rattle.sv_shapes.specs.Formals.{formal_dimension_violations}
use Rattle.sv_shapes.proofs.imports.note_formal_dimensions.Goals as goal

pub loop-dimension-init : goal.loop-dimension-init
loop-dimension-init c =
    noted_first (formal_dimension_violations c.args.file) c.args.found.now c.args.dimensions.now

pub loop-dimension-preserved : goal.loop-dimension-preserved
loop-dimension-preserved c =
    noted_next
    c.args.dimensions.now
    c.loop-dimension.dimension-index
    c.dimension-item.result
    c.loop-dimension-test.true
    c.dimension-item.is
    c.note_formal_dimension.ensures
    c.loop-dimension.invariant

pub returns : goal.returns
returns c = noted_last c.args.dimensions.now c.loop-dimension.dimension-index c.loop-dimension-test.false c.loop-dimension.invariant
