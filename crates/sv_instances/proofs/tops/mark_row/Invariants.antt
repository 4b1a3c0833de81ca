use Rattle.std.proofs.Common.{drop}
use Rattle.std.specs.Prelude.{◌==◌}
use Rattle.sv_instances.proofs.Marked.{IsMarking}
use Rattle.sv_instances.proofs.tops.mark_row.Given as goal

abbrev pub invariant-loop-child : goal.invariant-loop-child
invariant-loop-child l = IsMarking (λ c k. c.module_number == k) l.initial.marks l.row (drop l.child-index l.row) l.marks
