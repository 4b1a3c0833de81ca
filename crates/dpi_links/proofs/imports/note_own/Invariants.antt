use Rattle.std.proofs.Common.{drop}
use Rattle.dpi_rules.proofs.Noting.{IsNoted}
use Rattle.dpi_links.specs.Imports.{told, own_violations}
use Rattle.dpi_links.proofs.imports.note_own.Given as goal

abbrev pub invariant-loop-import : goal.invariant-loop-import
invariant-loop-import l =
    IsNoted (λ i. own_violations (told i)) l.initial.found l.imports (drop l.import-index l.imports) l.found
