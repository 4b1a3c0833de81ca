use Rattle.std.proofs.Common.{drop, map}
use Rattle.dpi_rules.proofs.Noting.{IsNoted}
use Rattle.dpi_links.specs.Functions.{bodies_of}
use Rattle.dpi_links.specs.Exports.{told, module_violations}
use Rattle.dpi_links.proofs.exported.note_modules.Given as goal

abbrev pub invariant-loop-exports : goal.invariant-loop-exports
invariant-loop-exports l =
    IsNoted (λ xs. module_violations (bodies_of l.bodies) (map told xs)) l.initial.found l.table (drop l.exports-index l.table) l.found
