use Rattle.dpi_shape.specs.Leaf.{element_cells}
use Rattle.dpi_shape.proofs.Walks.{Walks}
use Rattle.dpi_shape.proofs.shape.Shape.cell_at.Given as goal

abbrev pub invariant-loop-place : goal.invariant-loop-place
invariant-loop-place l =
    Walks (element_cells l.self.leaf) l.ranges l.indices l.stride l.cell l.place
