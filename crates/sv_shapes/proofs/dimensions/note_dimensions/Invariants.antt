use Rattle.std.proofs.Common.{drop}
use Rattle.dpi_rules.proofs.Noting.{IsNoted}
use Rattle.sv_shapes.specs.Dimensions.{dimension_violations}
use Rattle.sv_shapes.proofs.dimensions.note_dimensions.Given as goal

-- what is noted so far, and what the dimensions left over hold
abbrev pub invariant-loop-dimension : goal.invariant-loop-dimension
invariant-loop-dimension l =
    IsNoted (dimension_violations l.file) l.initial.found l.dimensions (drop l.dimension-index l.dimensions) l.found
