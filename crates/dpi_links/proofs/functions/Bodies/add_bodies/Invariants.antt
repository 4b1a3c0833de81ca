use Rattle.std.proofs.Common.{drop}
use Rattle.c_functions.specs.Declarations.{told}
use Rattle.dpi_links.specs.Functions.{bodies_of, given}
use Rattle.dpi_links.proofs.Gathered.{IsGathered}
use Rattle.dpi_links.proofs.functions.Bodies.add_bodies.Given as goal

-- the bodies so far, and those of the declarations left over
abbrev pub invariant-loop-declaration : goal.invariant-loop-declaration
invariant-loop-declaration l =
    IsGathered (λ d. given l.of_static (told d)) (bodies_of l.initial.self) l.declarations (drop l.declaration-index l.declarations) (bodies_of l.self)
