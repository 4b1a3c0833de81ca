use Rattle.std.proofs.Common.{◌≡◌, ◌≤◌, take, length}
use Rattle.dpi_rules.specs.Least.{noted}
use Rattle.c_judge.specs.Judge as spec
use Rattle.c_judge.proofs.Grouping.{onto}
use Rattle.c_judge.proofs.assignments.grouped.Given as goal

-- the assignments that are left make the same of the value so far
abbrev pub invariant-loop-left : goal.invariant-loop-left
invariant-loop-left l = record {
  room : l.left ≤ length l.sides;
  value : (spec.grouped l.file l.first l.sides).value ≡ (onto l.file l.first (take l.left l.sides) (spec.clean l.value)).value;
  found : noted l.fn.found (spec.grouped l.file l.first l.sides).found ≡ noted l.found (onto l.file l.first (take l.left l.sides) (spec.clean l.value)).found;
}

abbrev pub decreases-loop-left : goal.decreases-loop-left
decreases-loop-left l = l.left
