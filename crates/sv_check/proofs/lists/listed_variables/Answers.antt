use Rattle.std.proofs.Common.{ap, ◌∙◌}
use Rattle.sv_instances.specs.Modules.{modules_in}
use Rattle.sv_design.specs.Items.{declarations_in}
use Rattle.sv_scopes.specs.Variables.{variables_of}
use Rattle.sv_check.proofs.lists.listed_variables.Goals as goal

pub returns : goal.returns
returns c =
    let files = c.args.files.now in
    c.in_ok-list.ensures
    ∙ c.in_ok-variables.ensures
    ∙ ap (λ ds. variables_of (modules_in files) ds c.args.scopes.now) c.requires.declarations
    ∙ ap (variables_of (modules_in files) (declarations_in files)) c.requires.scopes
