use Rattle.std.proofs.Common.{◌≡◌, ◌≤◌, take, length}
use Rattle.dpi_rules.specs.Least.{noted}
use Rattle.c_judge.specs.Calls.{env_of}
use Rattle.c_judge.specs.Judge as spec
use Rattle.c_judge.proofs.prefixes.all_prefixed.Given as goal

-- the prefixes that are left make the same of the operand so far
abbrev pub invariant-loop-left : goal.invariant-loop-left
invariant-loop-left l = record {
  room : l.left ≤ length l.prefixes;
  value : (spec.prefixes_judged (env_of l.around) l.prefixes (spec.clean l.fn.operand)).value ≡ (spec.prefixes_judged (env_of l.around) (take l.left l.prefixes) (spec.clean l.operand)).value;
  found : noted l.fn.found (spec.prefixes_judged (env_of l.around) l.prefixes (spec.clean l.fn.operand)).found ≡ noted l.found (spec.prefixes_judged (env_of l.around) (take l.left l.prefixes) (spec.clean l.operand)).found;
}

abbrev pub decreases-loop-left : goal.decreases-loop-left
decreases-loop-left l = l.left
