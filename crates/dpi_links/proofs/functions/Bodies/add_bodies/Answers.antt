use Rattle.std.proofs.Common.{ap, ◌∙◌}
use Rattle.std.specs.Option.{option_or}
use Rattle.c_functions.specs.Declarations.{told}
use Rattle.dpi_links.specs.Functions.{bodies_of, given}
use Rattle.dpi_links.proofs.Gathered.{gathered_first, gathered_next, gathered_last, first_map}
use Rattle.dpi_links.proofs.functions.Bodies.add_bodies.Goals as goal

pub loop-declaration-init : goal.loop-declaration-init
loop-declaration-init c = gathered_first (λ d. given c.args.of_static (told d)) (bodies_of c.args.self.now) c.args.declarations.now

pub loop-declaration-preserved : goal.loop-declaration-preserved
loop-declaration-preserved c =
    gathered_next (λ d. given c.args.of_static (told d)) c.args.declarations.now c.loop-declaration.declaration-index c.declaration-item.result
    c.loop-declaration-test.true c.declaration-item.is (bodies_of c.add_body.new.self) c.in_ok-add_body.ensures c.loop-declaration.invariant

pub returns : goal.returns
returns c = λ q.
    gathered_last (λ d. given c.args.of_static (told d)) c.args.declarations.now c.loop-declaration.declaration-index c.loop-declaration-test.false c.loop-declaration.invariant q
    ∙ ap (option_or (bodies_of c.args.self.now q)) (first_map told (given c.args.of_static) c.args.declarations.now q)
