use Rattle.std.proofs.Common.{◌≡◌, false, drop}
use Rattle.dpi_rules.specs.Least.{noted}
use Rattle.dpi_items.specs.Integers.{import_integers_behind}
use Rattle.dpi_items.proofs.integers.note_import_integers.Given as goal

-- what is noted so far and what the ones left over break come to what all break
abbrev pub invariant-loop-formal : goal.invariant-loop-formal
invariant-loop-formal l = record {
  same : noted l.fn.found (import_integers_behind l.file false l.formals) ≡ noted l.found (import_integers_behind l.file l.integer (drop l.formal-index l.formals));
}
