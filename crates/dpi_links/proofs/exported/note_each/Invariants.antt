use Rattle.std.proofs.Common.{drop}
use Rattle.dpi_rules.proofs.Noting.{IsNoted}
use Rattle.dpi_links.specs.Functions.{bodies_of}
use Rattle.dpi_links.specs.Exports.{told, one_violations}
use Rattle.dpi_links.proofs.exported.note_each.Given as goal

abbrev pub invariant-loop-export : goal.invariant-loop-export
invariant-loop-export l =
    IsNoted (λ x. one_violations (bodies_of l.bodies) (told x)) l.initial.found l.exports (drop l.export-index l.exports) l.found
