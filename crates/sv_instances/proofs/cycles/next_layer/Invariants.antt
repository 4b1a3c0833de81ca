use Rattle.std.proofs.Common.{take, flat_map, []}
use Rattle.sv_instances.specs.Cycles.{IsSpread, parts}
use Rattle.sv_instances.proofs.cycles.next_layer.Given as goal

abbrev pub invariant-loop-number : goal.invariant-loop-number
invariant-loop-number l = IsSpread l.initial.marks [] (flat_map (parts l.children) (take l.number-index l.layer)) l.marks l.next.items
