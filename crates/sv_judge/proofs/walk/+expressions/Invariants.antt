use Rattle.std.proofs.Common.{drop}
use Rattle.sv_judge.specs.Calls.{env_of}
use Rattle.sv_judge.proofs.Readings.{IsReading, links}
use Rattle.sv_judge.proofs.Loops.{IsSelecting, IsPassing, IsJoining}
use Rattle.sv_judge.proofs.walk.+expressions.Given as goal

-- what the actuals that are left violate
abbrev pub invariant-actuals-loop-number : goal.invariant-actuals-loop-number
invariant-actuals-loop-number l = IsPassing (env_of l.place) l.callee l.initial.found l.es l.number l.found

-- the parts so far, and those that are left
abbrev pub invariant-parts-loop-e : goal.invariant-parts-loop-e
invariant-parts-loop-e l = IsJoining (env_of l.place) l.initial.found l.es (drop l.e-index l.es) l.joints.items l.found

-- what the selects that are left make of what is selected so far
abbrev pub invariant-selected_by-loop-part : goal.invariant-selected_by-loop-part
invariant-selected_by-loop-part l = IsSelecting (env_of l.place) l.fn.before l.initial.found l.selects (drop l.part-index l.selects) l.selected l.found

-- the chain so far, and what is left
abbrev pub invariant-terms-loop-term : goal.invariant-terms-loop-term
invariant-terms-loop-term l = IsReading l.fn.first (links (env_of l.place) l.rest) (links (env_of l.place) (drop l.term-index l.rest)) l.reading
