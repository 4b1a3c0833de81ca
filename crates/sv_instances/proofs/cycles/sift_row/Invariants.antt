use Rattle.std.proofs.Common.{◌≡◌, ◌++◌, drop}
use Rattle.dpi_rules.proofs.Noting.{IsNoted}
use Rattle.sv_instances.specs.Cycles.{is_cyclic, cycle, acyclic_row}
use Rattle.sv_instances.proofs.cycles.sift_row.Given as goal

abbrev pub invariant-loop-child : goal.invariant-loop-child
invariant-loop-child l = record {
  kept : l.list ++ acyclic_row l.children l.number (drop l.child-index l.row) ≡ acyclic_row l.children l.number l.row;
  refused : IsNoted (λ c. cycle (is_cyclic l.children l.number c) c) l.initial.found l.row (drop l.child-index l.row) l.found;
}
