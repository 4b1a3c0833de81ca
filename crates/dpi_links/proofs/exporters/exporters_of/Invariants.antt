use Rattle.std.proofs.Common.{drop, None, Some}
use Rattle.dpi_links.specs.Firsts.{by_name}
use Rattle.dpi_links.specs.Exports.{name_of, named_told}
use Rattle.dpi_links.specs.Exporters.{exports_of}
use Rattle.dpi_links.proofs.Gathered.{IsGathered}
use Rattle.dpi_links.proofs.exporters.exporters_of.Given as goal

-- the exports so far, and those left over
abbrev pub invariant-loop-export : goal.invariant-loop-export
invariant-loop-export l =
    IsGathered (λ x. by_name name_of Some (named_told x)) (λ q. None) l.exports (drop l.export-index l.exports) (exports_of l.exporters)
