use Rattle.std.proofs.Common.{◌≡◌, ◌++◌, flat_map, drop}
use Rattle.c_program.specs.Objects.{param_objects}
use Rattle.c_program.proofs.objects.add_listed.Given as goal

-- the objects so far, and those of the parameters left over
abbrev pub invariant-loop-param : goal.invariant-loop-param
invariant-loop-param l = l.list.items ++ flat_map (param_objects l.file) (drop l.param-index l.params) ≡ l.initial.list.items ++ flat_map (param_objects l.file) l.params
