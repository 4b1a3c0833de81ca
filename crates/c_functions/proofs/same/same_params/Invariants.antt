use Rattle.std.proofs.Common.{◌≡◌, map, drop}
use Rattle.c_functions.specs.Params.{param_type}
use Rattle.c_functions.specs.Same.{same_parts}
use Rattle.c_functions.proofs.same.same_params.Given as goal

-- what is left over of both is the same where all is
abbrev pub invariant-loop-param : goal.invariant-loop-param
invariant-loop-param l =
    same_parts (map param_type (drop l.param-index l.first)) (map param_type l.rest) ≡ same_parts (map param_type l.first) (map param_type l.other)
