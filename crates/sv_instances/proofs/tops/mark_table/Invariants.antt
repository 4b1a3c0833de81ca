use Rattle.std.proofs.Common.{drop}
use Rattle.sv_instances.specs.Tops.{is_among}
use Rattle.sv_instances.proofs.Marked.{IsMarking}
use Rattle.sv_instances.proofs.tops.mark_table.Given as goal

abbrev pub invariant-loop-row : goal.invariant-loop-row
invariant-loop-row l = IsMarking is_among l.initial.marks l.children (drop l.row-index l.children) l.marks
