use Rattle.std.proofs.Common.{None}
use Rattle.c_names.specs.Scopes.{scopes_of}
use Rattle.c_walk.specs.Around.{around_of}
use Rattle.c_walk.proofs.Noted.{seen_says}
use Rattle.c_walk.proofs.declarations.see_variable.Goals as goal

pub returns : goal.returns
returns c =
    seen_says (around_of c.args.outside.now) c.args.lasts c.args.tree.now c.args.declarator.now c.object-object.result (scopes_of c.args.scopes.now) (scopes_of c.declare_object.new.scopes) None c.declare_object.new.found c.declare_object.result
    c.object-object.ensures.object c.declare_object.ensures
