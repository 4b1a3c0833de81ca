use Rattle.std.proofs.Common.{drop}
use Rattle.dpi_rules.proofs.Noting.{IsNoted}
use Rattle.sv_judge.specs.Calls.{env_of}
use Rattle.sv_walk.specs.Values.{init_violations}
use Rattle.sv_walk.proofs.values.+initials.Given as goal

-- what is noted so far, and what the parts left over violate
abbrev pub invariant-note_parts-loop-part : goal.invariant-note_parts-loop-part
invariant-note_parts-loop-part l = IsNoted (λ x. init_violations (env_of l.place) x l.target) l.initial.found l.parts (drop l.part-index l.parts) l.found
