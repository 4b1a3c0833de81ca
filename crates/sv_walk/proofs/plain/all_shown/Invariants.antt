use Rattle.std.proofs.Common.{drop, []}
use Rattle.sv_judge.specs.Calls.{env_of}
use Rattle.sv_walk.specs.Plain as spec
use Rattle.sv_walk.proofs.Comparing.{IsKeeping, alone}
use Rattle.sv_walk.proofs.plain.all_shown.Given as goal

-- what is kept so far, and what is left
abbrev pub invariant-loop-e : goal.invariant-loop-e
invariant-loop-e l = IsKeeping (env_of l.place) (spec.shown (env_of l.place)) alone [] l.initial.found l.es (drop l.e-index l.es) l.args.items l.found
