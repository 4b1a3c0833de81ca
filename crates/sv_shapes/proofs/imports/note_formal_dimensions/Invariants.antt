use Rattle.std.proofs.Common.{drop}
use Rattle.dpi_rules.proofs.Noting.{IsNoted}
use Rattle.sv_shapes.specs.Formals.{formal_dimension_violations}
use Rattle.sv_shapes.proofs.imports.note_formal_dimensions.Given as goal

-- what is noted so far, and what the dimensions left over hold
abbrev pub invariant-loop-dimension : goal.invariant-loop-dimension
invariant-loop-dimension l =
    IsNoted (formal_dimension_violations l.file) l.initial.found l.dimensions (drop l.dimension-index l.dimensions) l.found
