use Rattle.std.proofs.Common.{◌++◌, ap, ◌∙◌}
use Rattle.sv_scopes.specs.Scopes.{scope_at, instance_scopes, scopes_of}
use Rattle.sv_scopes.proofs.Lists.{adding_next}
use Rattle.sv_scopes.proofs.scopes.scopes_of.Goals as goal

pub loop-instance-preserved : goal.loop-instance-preserved
loop-instance-preserved c =
    let homes = c.args.homes.now in
    let is = c.args.instances.now in
    let x = c.instance-item.result in
    let list = c.loop-instance.list.items in
    let made = c.in_ok-add_scope.ensures ∙ ap (λ h. list ++ scope_at x h) (c.copied-home.ensures ∙ c.at.ensures) in
    adding_next (instance_scopes homes) (scopes_of homes is) list c.add_scope.new.list.items is c.loop-instance.instance-index x c.loop-instance-test.true c.instance-item.is made c.loop-instance.invariant
