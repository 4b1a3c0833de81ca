use Rattle.std.proofs.Common.{◌≡◌, ◌++◌, map, drop}
use Rattle.c_functions.specs.Params.{param_type}
use Rattle.c_functions.proofs.written.listed_types.Given as goal

-- the types so far, and those of the parameters left over
abbrev pub invariant-loop-param : goal.invariant-loop-param
invariant-loop-param l = l.types ++ map param_type (drop l.param-index l.params) ≡ map param_type l.params
