use Rattle.std.proofs.Common.{◌≡◌, map, drop}
use Rattle.std.specs.Prelude.{is_some}
use Rattle.std.specs.List.{list_all}
use Rattle.c_functions.specs.Params.{param_type}
use Rattle.c_functions.proofs.same.are_known.Given as goal

-- what is left over is known where all is
abbrev pub invariant-loop-param : goal.invariant-loop-param
invariant-loop-param l = list_all is_some (map param_type (drop l.param-index l.params)) ≡ list_all is_some (map param_type l.params)
