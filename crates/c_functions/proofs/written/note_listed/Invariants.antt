use Rattle.std.proofs.Common.{drop}
use Rattle.dpi_rules.proofs.Noting.{IsNoted}
use Rattle.c_functions.specs.Params.{param_violations}
use Rattle.c_functions.proofs.written.note_listed.Given as goal

-- what is noted so far, and what the ones left over break
abbrev pub invariant-loop-param : goal.invariant-loop-param
invariant-loop-param l = IsNoted (param_violations l.file) l.initial.found l.params (drop l.param-index l.params) l.found
