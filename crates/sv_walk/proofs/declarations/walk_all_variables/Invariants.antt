use Rattle.std.proofs.Common.{drop}
use Rattle.dpi_rules.proofs.Noting.{IsNoted}
use Rattle.sv_names.specs.Scopes.{scopes_of}
use Rattle.sv_walk.specs.Around.{inside, env}
use Rattle.sv_walk.specs.Declarations.{variables_violations}
use Rattle.sv_walk.proofs.declarations.walk_all_variables.Given as goal

-- what is noted so far, and what the ones left over violate
abbrev pub invariant-loop-variables : goal.invariant-loop-variables
invariant-loop-variables l = IsNoted (variables_violations (env (inside l.around (scopes_of l.scopes)))) l.initial.found l.declarations (drop l.variables-index l.declarations) l.found
