use Rattle.std.proofs.Common.{◌≡◌, drop}
use Rattle.dpi_rules.proofs.Noting.{IsNoted}
use Rattle.sv_names.specs.Scopes.{scopes_of}
use Rattle.sv_walk.specs.Around.{inside}
use Rattle.sv_check.specs.Modules.{item_violations}
use Rattle.sv_check.proofs.modules.note_items.Given as goal

abbrev pub invariant-loop-item : goal.invariant-loop-item
invariant-loop-item l = record {
  kept : scopes_of l.scopes ≡ scopes_of l.initial.scopes;
  broken : IsNoted (item_violations (inside l.around (scopes_of l.initial.scopes))) l.initial.found l.items (drop l.item-index l.items) l.found;
}
