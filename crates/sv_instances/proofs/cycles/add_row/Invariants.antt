use Rattle.std.proofs.Common.{take, flat_map, ◌∷◌, []}
use Rattle.sv_instances.specs.Cycles.{IsSpread}
use Rattle.sv_instances.proofs.cycles.add_row.Given as goal

abbrev pub invariant-loop-child : goal.invariant-loop-child
invariant-loop-child l = IsSpread l.initial.marks l.initial.list.items (flat_map (λ c. c.module_number ∷ []) (take l.child-index l.row)) l.marks l.list.items
