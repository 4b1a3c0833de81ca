use Rattle.c_names.specs.Names.{names_of}
use Rattle.c_names.specs.Scopes.{scopes_of}
use Rattle.c_walk.specs.Around.{around_of}
use Rattle.c_walk.specs.Sizes.{param_size_violations}
use Rattle.c_walk.specs.Declarations.{param_name_walk, param_operand}
use Rattle.c_walk.proofs.Filling.{filled_behind}
use Rattle.c_walk.proofs.parameters.walk_param.Goals as goal

pub returns : goal.returns
returns c =
    let a = around_of c.args.outside.now in
    let p = c.args.param.now in
    filled_behind (λ names. param_size_violations a names p.array) (param_name_walk a p.name (param_operand p)) (scopes_of c.args.scopes.now) (names_of c.args.scope.now) (names_of c.declare_param.new.scope) c.args.found.now c.note_param_size.new.found c.declare_param.new.found c.declare_param.result
    c.note_param_size.ensures (rw c.param_operand.ensures at c.declare_param.ensures)
