use Rattle.std.proofs.Common.{◌≡◌, ◌++◌, drop}
use Rattle.dpi_rules.specs.Least.{noted}
use Rattle.sv_signatures.specs.Before.{start}
use Rattle.sv_signatures.specs.Formals.{told, formals_of, formals_behind, violations_behind}
use Rattle.sv_signatures.proofs.formals.listed_formals.Given as goal

-- what is listed so far and what stands behind it come to all formals, and so do their violations
abbrev pub invariant-loop-formal : goal.invariant-loop-formal
invariant-loop-formal l = record {
  list : l.listed ++ formals_behind (told l.before) (drop l.formal-index l.formals) ≡ formals_of l.formals;
  violations : noted l.fn.found (violations_behind l.file start l.formals) ≡ noted l.found (violations_behind l.file (told l.before) (drop l.formal-index l.formals));
}
