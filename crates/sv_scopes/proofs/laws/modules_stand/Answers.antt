use Rattle.sv_instances.specs.Modules.{modules_in}
use Rattle.sv_scopes.specs.Instances.{instances}
use Rattle.sv_scopes.specs.Homes.{homes_in}
use Rattle.sv_scopes.proofs.Inside.{home_inside, scope_home}
use Rattle.sv_scopes.proofs.laws.modules_stand.Goals as goal

pub returns : goal.returns
returns c = λ files n s g.
    let found = scope_home (homes_in files) (instances 1001 (modules_in files)) n s g in
    home_inside files found.0 s.home found.1
