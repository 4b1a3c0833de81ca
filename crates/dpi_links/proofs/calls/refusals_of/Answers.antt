use Rattle.std.proofs.Common.{◌≡◌, ℕ, List, map, ap, ◌∙◌, true}
use Rattle.std.specs.Option.{option_or}
use Rattle.c_functions.specs.Declarations.{told}
use Rattle.c_calls.specs.Refusals.{rules_of}
use Rattle.dpi_links.specs.Functions.{bodies_of, first_body}
use Rattle.dpi_links.specs.Exporters.{exports_of}
use Rattle.dpi_links.specs.Calls.{rules_given, rules_in}
use Rattle.dpi_links.proofs.calls.refusals_of.Goals as goal

pub returns : goal.returns
returns c =
    let ds = map told c.args.declarations.now in
    let bodies = bodies_of c.args.bodies.now in
    let exports = exports_of c.args.exporters.now in
    let statics : bodies_of c.in_ok-statics.statics ≡ first_body true ds = λ i q. c.in_ok-statics.ensures q i in
    let each : (q : List ℕ) → rules_of c.add_rules.new.refusals q ≡ rules_in bodies exports ds q =
    λ q.
    c.in_ok-add_rules.ensures q
    ∙ ap (λ r. option_or (r q) (rules_given bodies exports (bodies_of c.in_ok-statics.statics) ds q)) c.new-refusals.ensures
    ∙ ap (λ s. rules_given bodies exports s ds q) statics in
    λ i q. each q i
