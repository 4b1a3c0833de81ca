use Rattle.std.proofs.Common.{arith}
use Rattle.dpi_shape.proofs.Elements.{counts-more, counts-all, counts-past}
use Rattle.dpi_shape.proofs.dims.cells_within.Goals as goal

pub returns-then-cells-most : goal.returns-then-cells-most
returns-then-cells-most c =
    let next =
    counts-more _ _ _ _ _ _ c.loop-range-test.true c.size-cells.ensures.value
    c.loop-range.invariant.0 in
    λ small. absurd (omega (arith, counts-past _ _ _ _ _ next c.if-cells-most.true, small))

pub loop-range-preserved : goal.loop-range-preserved
loop-range-preserved c =
    let next =
    counts-more _ _ _ _ _ _ c.loop-range-test.true c.size-cells.ensures.value
    c.loop-range.invariant.0
    in
    (next, c.if-cells-most.false)

pub returns : goal.returns
returns c =
    let all = counts-all _ _ _ _ c.loop-range-test.false c.loop-range.invariant.0 in
    (omega (arith, all), all)
