use Rattle.std.proofs.Common.{◌≡◌, ◌≤◌, take, length}
use Rattle.c_judge.specs.Parts as spec
use Rattle.c_judge.proofs.parts.prefixes_part.Given as goal

-- the prefixes that are left make the same of the part so far
abbrev pub invariant-loop-left : goal.invariant-loop-left
invariant-loop-left l = record {
  room : l.left ≤ length l.prefixes;
  same : spec.prefixes_part l.prefixes l.fn.part ≡ spec.prefixes_part (take l.left l.prefixes) l.part;
}

abbrev pub decreases-loop-left : goal.decreases-loop-left
decreases-loop-left l = l.left
