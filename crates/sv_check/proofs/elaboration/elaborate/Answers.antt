use Rattle.std.proofs.Common.{take, ap, ◌∙◌}
use Rattle.dpi_rules.specs.Least.{least}
use Rattle.sv_instances.specs.Modules.{modules_in}
use Rattle.sv_scopes.specs.Instances.{instances}
use Rattle.sv_check.specs.Check.{violations}
use Rattle.sv_check.proofs.elaboration.elaborate.Goals as goal

pub new-requires-clause-clean : goal.new-requires-clause-clean
new-requires-clause-clean c =
    let found = c.in_ok-instances.ensures.broken ∙ ap (λ fs. least (violations fs)) c.deref.ensures.value in
    c.in-Ok.ensures.least (violations c.args.files.items) found

pub new-requires-clause-listed : goal.new-requires-clause-listed
new-requires-clause-listed c =
    c.in_ok-instances.ensures.listed ∙ ap (λ fs. take 1001 (instances 1001 (modules_in fs))) c.deref.ensures.value

pub returns-in-Err-clause-verdict : goal.returns-in-Err-clause-verdict
returns-in-Err-clause-verdict c =
    let found = c.in_ok-instances.ensures.broken ∙ ap (λ fs. least (violations fs)) c.deref.ensures.value in
    c.in-Err.ensures.least (violations c.args.files.items) found
