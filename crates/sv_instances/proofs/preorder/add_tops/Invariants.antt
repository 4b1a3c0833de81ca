use Rattle.std.proofs.Common.{◌≡◌, ◌≤◌, ◌++◌, length, take, drop}
use Rattle.sv_instances.specs.Preorder.{from_tops}
use Rattle.sv_instances.proofs.preorder.add_tops.Given as goal

-- the list, and what the tops left over make
abbrev pub invariant-loop-child : goal.invariant-loop-child
invariant-loop-child l = record {
  room : length l.list ≤ l.most;
  same : take l.most (l.list ++ from_tops l.children l.levels (drop l.child-index l.tops)) ≡ take l.most (l.initial.list ++ from_tops l.children l.levels l.tops);
}
