use Rattle.std.proofs.Common.{ap, ◌∙◌}
use Rattle.std.specs.Option.{option_or}
use Rattle.c_functions.specs.Declarations.{told}
use Rattle.c_calls.specs.Refusals.{rules_of}
use Rattle.dpi_links.specs.Functions.{bodies_of}
use Rattle.dpi_links.specs.Exporters.{exports_of}
use Rattle.dpi_links.specs.Calls.{rule_given}
use Rattle.dpi_links.proofs.Gathered.{gathered_first, gathered_next, gathered_last, first_map}
use Rattle.dpi_links.proofs.calls.add_rules.Goals as goal

pub loop-declaration-init : goal.loop-declaration-init
loop-declaration-init c =
    let given = rule_given (bodies_of c.args.bodies.now) (exports_of c.args.exporters.now) (bodies_of c.args.statics.now) in
    gathered_first (λ d. given (told d)) (rules_of c.args.refusals.now) c.args.declarations.now

pub loop-declaration-preserved : goal.loop-declaration-preserved
loop-declaration-preserved c =
    let given = rule_given (bodies_of c.args.bodies.now) (exports_of c.args.exporters.now) (bodies_of c.args.statics.now) in
    gathered_next (λ d. given (told d)) c.args.declarations.now c.loop-declaration.declaration-index c.declaration-item.result
    c.loop-declaration-test.true c.declaration-item.is (rules_of c.add_rule.new.refusals) c.in_ok-add_rule.ensures c.loop-declaration.invariant

pub returns : goal.returns
returns c = λ q.
    let given = rule_given (bodies_of c.args.bodies.now) (exports_of c.args.exporters.now) (bodies_of c.args.statics.now) in
    gathered_last (λ d. given (told d)) c.args.declarations.now c.loop-declaration.declaration-index c.loop-declaration-test.false c.loop-declaration.invariant q
    ∙ ap (option_or (rules_of c.args.refusals.now q)) (first_map told given c.args.declarations.now q)
