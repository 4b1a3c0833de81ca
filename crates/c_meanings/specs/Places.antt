-- Expressions by the names in sight.
use Rattle.std.specs.Prelude.{Option, Some, None, List, [], flat_map}
use Rattle.c_tree.specs.declared.expr.CExpr.{CExpr}
use Rattle.c_tree.specs.declared.declarations.Size.{Size}
use Rattle.c_names.specs.Names.{Names}
use Rattle.c_walk.specs.Around.{Around, env}
use Rattle.c_facts.specs.declared.facts.CFact.{CFact}
use Rattle.c_facts.specs.Facts.{size_facts}
use Rattle.c_facts.specs.Exprs.{expr_facts}

-- what is told
abbrev pub Facts : Type 0
Facts = List CFact

-- an expression inside these scopes
abbrev pub expr_at : Around → List Names → CExpr → Facts
expr_at a names e = expr_facts (env a names) a.values e

-- several expressions, in text order
abbrev pub exprs_at : Around → List Names → List CExpr → Facts
exprs_at a names es = flat_map (expr_at a names) es

-- an expression, if there is one
abbrev pub maybe_at : Around → List Names → Option CExpr → Facts
maybe_at a names None = []
maybe_at a names (Some e) = expr_at a names e

-- the size of an array inside these scopes
abbrev pub size_at : Around → List Names → Size → Facts
size_at a names size = size_facts (env a names) a.values size
