use Rattle.std.proofs.Common.{drop}
use Rattle.c_functions.specs.Declarations.{told}
use Rattle.c_calls.specs.Refusals.{rules_of}
use Rattle.dpi_links.specs.Functions.{bodies_of}
use Rattle.dpi_links.specs.Exporters.{exports_of}
use Rattle.dpi_links.specs.Calls.{rule_given}
use Rattle.dpi_links.proofs.Gathered.{IsGathered}
use Rattle.dpi_links.proofs.calls.add_rules.Given as goal

-- the rules so far, and those of the declarations left over
abbrev pub invariant-loop-declaration : goal.invariant-loop-declaration
invariant-loop-declaration l =
    IsGathered (λ d. rule_given (bodies_of l.bodies) (exports_of l.exporters) (bodies_of l.statics) (told d)) (rules_of l.initial.refusals) l.declarations (drop l.declaration-index l.declarations) (rules_of l.refusals)
