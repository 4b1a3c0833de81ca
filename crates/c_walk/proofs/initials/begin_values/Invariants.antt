use Rattle.std.proofs.Common.{drop}
use Rattle.dpi_rules.proofs.Noting.{IsNoted}
use Rattle.c_names.specs.Scopes.{scopes_of}
use Rattle.c_walk.specs.Around.{around_of}
use Rattle.c_walk.specs.Objects.{begin_violations}
use Rattle.c_walk.proofs.initials.begin_values.Given as goal

-- what is noted so far, and what the ones left over break
abbrev pub invariant-loop-e : goal.invariant-loop-e
invariant-loop-e l = IsNoted (begin_violations (around_of l.outside) (scopes_of l.scopes) l.place l.object) l.initial.found l.es (drop l.e-index l.es) l.found
