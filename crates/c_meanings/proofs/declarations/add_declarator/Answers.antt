use Rattle.c_names.specs.Scopes.{scopes_of}
use Rattle.c_walk.specs.Around.{around_of}
use Rattle.c_meanings.proofs.Parts.{declarator_says}
use Rattle.c_meanings.proofs.declarations.add_declarator.Goals as goal

pub returns : goal.returns
returns c =
    declarator_says (around_of c.args.outside.now) c.args.lasts c.args.tree.now c.args.declarator.now (scopes_of c.args.scopes.now) (scopes_of c.see_variable.new.scopes) c.args.list.now.items c.add_name_and_size.new.list.items c.add_initializer.new.list.items c.add_initializer.result
    c.in_ok-add_name_and_size.ensures c.in_ok-see_variable.ensures c.add_initializer.ensures
