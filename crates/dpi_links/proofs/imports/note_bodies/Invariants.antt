use Rattle.std.proofs.Common.{drop}
use Rattle.dpi_rules.proofs.Noting.{IsNoted}
use Rattle.dpi_links.specs.Functions.{bodies_of}
use Rattle.dpi_links.specs.Imports.{told, body_violations}
use Rattle.dpi_links.proofs.imports.note_bodies.Given as goal

abbrev pub invariant-loop-import : goal.invariant-loop-import
invariant-loop-import l =
    IsNoted (λ i. body_violations (bodies_of l.bodies) (told i)) l.initial.found l.imports (drop l.import-index l.imports) l.found
