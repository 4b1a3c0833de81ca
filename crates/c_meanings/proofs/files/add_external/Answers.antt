use Rattle.std.proofs.Common.{None}
use Rattle.c_names.specs.Scopes.{scopes_of}
use Rattle.c_walk.specs.Around.{around_of}
use Rattle.c_walk.specs.File.{define_walk}
use Rattle.c_meanings.proofs.Parts.{brought_says}
use Rattle.c_meanings.proofs.files.add_external.Goals as goal

pub returns-in-Define : goal.returns-in-Define
returns-in-Define c =
    rw c.in-Define.is (brought_says (define_walk (around_of c.args.outside.now) c.in-Define.define) (scopes_of c.args.scopes.now) (scopes_of c.walk_define.new.scopes) c.args.list.now.items None c.walk_define.new.found c.walk_define.result c.walk_define.ensures)
