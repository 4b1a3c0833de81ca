use Rattle.std.proofs.Common.{◌≡◌, ◌≤◌, ◌-◌, ◌++◌, length, take, drop, flat_map}
use Rattle.sv_instances.specs.Preorder.{from_instance, inside}
use Rattle.sv_instances.proofs.preorder.+add_instance.Given as goal

abbrev pub decreases-add_instance : goal.decreases-add_instance
decreases-add_instance l = l.levels

-- the list, and what the children left over make
abbrev pub invariant-loop-child : goal.invariant-loop-child
invariant-loop-child l = record {
  room : length l.list ≤ l.most;
  same :
      take l.most (l.list ++ flat_map (λ k. from_instance l.children (l.levels - 1) (inside l.outer k)) (drop l.child-index l.below))
      ≡ take l.most (l.initial.list ++ flat_map (λ k. from_instance l.children (l.levels - 1) (inside l.outer k)) l.below);
}
