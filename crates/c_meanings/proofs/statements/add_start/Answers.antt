use Rattle.std.proofs.Common.{ap, sym, subst}
use Rattle.c_names.specs.Scopes.{scopes_of}
use Rattle.c_walk.specs.Around.{around_of}
use Rattle.c_meanings.specs.Statements.{maybe_says}
use Rattle.c_meanings.proofs.Telling.{adds_said}
use Rattle.c_meanings.proofs.statements.add_start.Goals as goal

pub returns-in-Expr : goal.returns-in-Expr
returns-in-Expr c =
    rw c.in-Expr.is (adds_said (maybe_says (around_of c.args.outside.now) c.in-Expr.e) (scopes_of c.args.scopes.now) c.args.list.now.items c.add_maybe.new.list.items c.add_maybe.result c.add_maybe.ensures)
