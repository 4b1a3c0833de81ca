use Rattle.std.proofs.Common.{false}
use Rattle.sv_names.specs.Names.{names_of}
use Rattle.sv_names.specs.Scopes.{scopes_of}
use Rattle.sv_walk.specs.Around.{inside}
use Rattle.sv_inside.specs.Seen.{inner_of_task}
use Rattle.sv_facts.specs.declared.facts.Meant.TheVariants.{Subroutine}
use Rattle.sv_meanings.specs.Declarations.{means}
use Rattle.sv_meanings.specs.Items.{formals_facts}
use Rattle.sv_meanings.proofs.Inner.{subroutine_says}
use Rattle.sv_meanings.proofs.items.add_task.Goals as goal

pub returns : goal.returns
returns c =
    let f = c.args.task.now in
    subroutine_says c.add_inside.result (inside c.args.around.now (scopes_of c.args.scopes.now)) (inner_of_task f) (names_of c.in_ok-scope.scope) false f.body (scopes_of c.add_inside.new.scopes)
    c.args.list.now.items c.add_meant.new.list.items c.add_formals.new.list.items c.add_inside.new.list.items (means f.name (Subroutine f.name.token)) (formals_facts f.formals)
    c.in_ok-add_meant.ensures c.in_ok-add_formals.ensures c.in_ok-scope.ensures c.add_inside.ensures
