use Rattle.std.proofs.Common.{◌≡◌, ◌≤◌, take, length}
use Rattle.dpi_rules.specs.Least.{noted}
use Rattle.sv_judge.specs.Judge.{prefixes_judged}
use Rattle.sv_judge.proofs.Prefixed.{fresh}
use Rattle.sv_judge.proofs.prefixes.all_prefixed.Given as goal

-- the prefixes that are left make the same of the operand so far
abbrev pub invariant-loop-left : goal.invariant-loop-left
invariant-loop-left l = record {
  room : l.left ≤ length l.prefixes;
  value : (prefixes_judged l.file l.prefixes (fresh l.fn.operand)).value ≡ (prefixes_judged l.file (take l.left l.prefixes) (fresh l.operand)).value;
  found : noted l.fn.found (prefixes_judged l.file l.prefixes (fresh l.fn.operand)).found ≡ noted l.found (prefixes_judged l.file (take l.left l.prefixes) (fresh l.operand)).found;
}

abbrev pub decreases-loop-left : goal.decreases-loop-left
decreases-loop-left l = l.left
