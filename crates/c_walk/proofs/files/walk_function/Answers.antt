use Rattle.c_names.specs.Names.{names_of}
use Rattle.c_names.specs.Scopes.{scopes_of}
use Rattle.c_walk.specs.Around.{around_of}
use Rattle.c_walk.proofs.Noted.{function_says}
use Rattle.c_walk.proofs.files.walk_function.Goals as goal

pub returns : goal.returns
returns c =
    function_says (around_of c.args.outside.now) c.args.number c.args.function.now (names_of c.in_ok-scope.scope) (scopes_of c.walk_body.new.scopes) c.walk_body.new.found c.walk_body.result
    c.in_ok-scope.ensures c.in_ok-declare_function.ensures (rw c.returning-inside.ensures at c.walk_body.ensures)
