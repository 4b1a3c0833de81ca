use Rattle.std.proofs.Common.{drop}
use Rattle.dpi_rules.proofs.Noting.{IsNoted}
use Rattle.sv_judge.specs.Calls.{env_of}
use Rattle.sv_walk.specs.Declarations.{declarator_violations}
use Rattle.sv_walk.proofs.declarations.note_declarators.Given as goal

-- what is noted so far, and what the ones left over violate
abbrev pub invariant-loop-declarator : goal.invariant-loop-declarator
invariant-loop-declarator l = IsNoted (declarator_violations (env_of l.place) l.data_type) l.initial.found l.declarators (drop l.declarator-index l.declarators) l.found
