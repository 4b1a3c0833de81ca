use Rattle.std.proofs.Common.{drop}
use Rattle.c_judge.specs.Calls.{env_of}
use Rattle.c_judge.proofs.Readings.{IsReading, links}
use Rattle.c_judge.proofs.Loops.{IsSuffixing, IsPassing, IsSiding}
use Rattle.c_judge.proofs.walk.+expressions.Given as goal

-- the arguments so far, and those that are left
abbrev pub invariant-arguments-loop-number : goal.invariant-arguments-loop-number
invariant-arguments-loop-number l = IsPassing (env_of l.around) l.callee l.initial.found l.es l.number l.values.items l.found

-- the parts so far, and those that are left
abbrev pub invariant-sides-loop-part : goal.invariant-sides-loop-part
invariant-sides-loop-part l = IsSiding (env_of l.around) l.initial.found l.rest (drop l.part-index l.rest) l.sides.items l.found

-- what the suffixes that are left make of the operand so far
abbrev pub invariant-suffixed-loop-part : goal.invariant-suffixed-loop-part
invariant-suffixed-loop-part l = IsSuffixing (env_of l.around) l.fn.first l.initial.found l.suffixes (drop l.part-index l.suffixes) l.operand l.found

-- the chain so far, and what is left
abbrev pub invariant-terms-loop-term : goal.invariant-terms-loop-term
invariant-terms-loop-term l = IsReading l.fn.first (links (env_of l.around) l.rest) (links (env_of l.around) (drop l.term-index l.rest)) l.reading
