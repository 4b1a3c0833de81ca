use Rattle.sv_names.specs.Names.{names_of}
use Rattle.sv_names.specs.Scopes.{scopes_of}
use Rattle.sv_meanings.proofs.Inner.{inside_says}
use Rattle.sv_meanings.proofs.items.add_inside.Goals as goal

pub returns : goal.returns
returns c =
    inside_says c.args.around.now c.args.body.now (scopes_of c.args.scopes.now) (scopes_of c.enter.new.self) (scopes_of c.add_body.new.scopes) (scopes_of c.leave.new.self) (names_of c.args.scope) c.args.list.now.items c.add_body.new.list.items
    c.in_ok-enter.ensures (rw (c.as_slice.ensures, c.as_slice-2.ensures) at c.in_ok-add_body.ensures) c.leave.ensures
