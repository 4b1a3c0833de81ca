use Rattle.std.proofs.Common.{◌≡◌, ◌++◌, drop}
use Rattle.dpi_rules.specs.Least.{noted}
use Rattle.sv_instances.specs.Cycles.{acyclic, acyclic_from, cycle_violations, cycles_from}
use Rattle.sv_instances.proofs.cycles.without_cycles.Given as goal

abbrev pub invariant-loop-row : goal.invariant-loop-row
invariant-loop-row l = record {
  counted : l.number ≡ l.row-index;
  kept : l.table ++ acyclic_from l.children l.number (drop l.row-index l.children) ≡ acyclic l.children;
  refused : noted l.initial.found (cycle_violations l.children) ≡ noted l.found (cycles_from l.children l.number (drop l.row-index l.children));
}
