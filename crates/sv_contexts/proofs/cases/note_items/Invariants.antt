use Rattle.std.proofs.Common.{drop}
use Rattle.dpi_rules.proofs.Noting.{IsNoted}
use Rattle.sv_contexts.specs.Cases.{item_reached}
use Rattle.sv_contexts.proofs.cases.note_items.Given as goal

-- what is noted so far, and what the values left over come to
abbrev pub invariant-loop-value : goal.invariant-loop-value
invariant-loop-value l = IsNoted (item_reached l.width) l.initial.found l.values (drop l.value-index l.values) l.found
