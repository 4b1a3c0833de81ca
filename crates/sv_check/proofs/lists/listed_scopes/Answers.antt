use Rattle.std.proofs.Common.{ap, ◌∙◌}
use Rattle.sv_scopes.specs.Homes.{homes_in}
use Rattle.sv_scopes.specs.Scopes.{scopes_of}
use Rattle.sv_check.proofs.Listed.{all_listed}
use Rattle.sv_check.proofs.lists.listed_scopes.Goals as goal

pub returns : goal.returns
returns c =
    let files = c.args.files.now in
    c.in_ok-list.ensures
    ∙ c.in_ok-scopes.ensures
    ∙ ap (λ homes. scopes_of homes c.args.instances.now) (c.deref.ensures.value ∙ c.in_ok-homes.ensures)
    ∙ ap (scopes_of (homes_in files)) (c.requires.listed ∙ all_listed files c.requires.clean)
