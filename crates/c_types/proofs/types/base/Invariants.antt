use Rattle.std.proofs.Common.{◌≡◌, ◌-◌}
use Rattle.c_types.specs.Reading as spec
use Rattle.c_types.proofs.types.base.Given as goal

abbrev pub invariant-loop-turn : goal.invariant-loop-turn
invariant-loop-turn l = spec.base l.fn.tokens ≡ spec.base_from (4 - l._turn) l.rest l.found l.tokens
