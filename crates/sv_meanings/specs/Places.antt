-- Where expressions stand.
use Rattle.std.specs.Prelude.{Option, Some, None, List, [], flat_map}
use Rattle.sv_tree.specs.declared.expr.Expr.{Expr}
use Rattle.sv_names.specs.declared.scopes.Scopes.{Scopes}
use Rattle.sv_judge.specs.Calls.{Env}
use Rattle.sv_walk.specs.declared.around.Around.{Around}
use Rattle.sv_walk.specs.Around.{env}
use Rattle.sv_inside.specs.Seen.{here}
use Rattle.sv_facts.specs.declared.facts.Fact.{Fact}
use Rattle.sv_facts.specs.Exprs.{expr_facts}

-- what is told
abbrev pub Facts : Type 0
Facts = List Fact

-- where an expression stands, in the code's scopes
abbrev pub at : Around → Scopes → Env
at around scopes = env (here around scopes)

-- several expressions, in text order
abbrev pub exprs_facts : Env → List Expr → Facts
exprs_facts env es = flat_map (expr_facts env) es

-- an expression, if there is one
abbrev pub maybe_facts : Env → Option Expr → Facts
maybe_facts env None = []
maybe_facts env (Some e) = expr_facts env e
