use Rattle.c_walk.specs.Around.{around_of}
use Rattle.c_walk.proofs.Noted.{declarator_says}
use Rattle.c_walk.proofs.declarations.walk_declarator.Goals as goal

pub returns : goal.returns
returns c =
    declarator_says (around_of c.args.outside.now) c.args.lasts c.args.tree.now c.args.declarator.now c.object-object.result c.args.found.now c.begin.new.found c.begin.result c.object-object.ensures.object c.object-object.ensures.found c.in_ok-declare_object.ensures c.begin.ensures
