use Rattle.std.proofs.Common.{drop, ◌≡◌}
use Rattle.sv_shapes.specs.Formals.{has_open}
use Rattle.sv_shapes.proofs.formals.has_open.Given as goal

-- none so far is open
abbrev pub invariant-loop-dimension : goal.invariant-loop-dimension
invariant-loop-dimension l = has_open l.dimensions ≡ has_open (drop l.dimension-index l.dimensions)
