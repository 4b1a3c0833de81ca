use Rattle.std.proofs.Common.{drop}
use Rattle.dpi_rules.proofs.Noting.{IsNoted}
use Rattle.sv_forms.specs.Items.{item_violations}
use Rattle.sv_forms.proofs.items.note_items.Given as goal

-- what is noted so far, and what the ones left over break
abbrev pub invariant-loop-item : goal.invariant-loop-item
invariant-loop-item l = IsNoted (item_violations l.file) l.initial.found l.items (drop l.item-index l.items) l.found
