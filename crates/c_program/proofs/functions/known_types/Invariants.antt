use Rattle.std.proofs.Common.{◌≡◌, ◌++◌, drop, flat_map}
use Rattle.c_program.specs.Functions.{listed}
use Rattle.c_program.proofs.functions.known_types.Given as goal

-- the types so far, and those left over
abbrev pub invariant-loop-of : goal.invariant-loop-of
invariant-loop-of l = l.list ++ flat_map listed (drop l.of-index l.types) ≡ flat_map listed l.types
