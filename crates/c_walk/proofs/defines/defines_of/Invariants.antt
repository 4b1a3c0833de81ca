use Rattle.std.proofs.Common.{◌≡◌, drop}
use Rattle.c_walk.specs.Around.{values_of, values_behind}
use Rattle.c_walk.proofs.defines.defines_of.Given as goal

-- what is left gives the same values
abbrev pub invariant-loop-external : goal.invariant-loop-external
invariant-loop-external l = values_behind (values_of l.initial.defines) l.externals ≡ values_behind (values_of l.defines) (drop l.external-index l.externals)
