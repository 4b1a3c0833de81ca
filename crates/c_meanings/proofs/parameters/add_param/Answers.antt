use Rattle.std.proofs.Common.{None}
use Rattle.c_names.specs.Names.{names_of}
use Rattle.c_names.specs.Scopes.{scopes_of}
use Rattle.c_walk.specs.Around.{around_of}
use Rattle.c_walk.specs.Declarations.{param_walk}
use Rattle.c_meanings.specs.Declarations.{param_facts}
use Rattle.c_meanings.proofs.Filling.{filled_behind}
use Rattle.c_meanings.proofs.parameters.add_param.Goals as goal

pub returns : goal.returns
returns c =
    let a = around_of c.args.outside.now in
    let p = c.args.param.now in
    filled_behind (λ names. param_facts a c.args.has_body names p) (param_walk a p) (scopes_of c.args.scopes.now) (names_of c.args.scope.now) (names_of c.walk_param.new.scope) c.args.list.now.items c.add_parts.new.list.items None c.walk_param.new.found c.walk_param.result
    c.in_ok-add_parts.ensures c.walk_param.ensures
