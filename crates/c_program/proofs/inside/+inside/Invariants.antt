use Rattle.std.proofs.Common.{◌≡◌, ◌++◌, drop, flat_map}
use Rattle.c_functions.specs.Inner.{seen}
use Rattle.c_program.specs.Inside.{in_part, in_else_if}
use Rattle.c_program.proofs.inside.+inside.Given as goal

-- what is listed so far, and what is inside of the parts left over
abbrev pub invariant-add_parts-loop-part : goal.invariant-add_parts-loop-part
invariant-add_parts-loop-part l = seen l.list ++ flat_map in_part (drop l.part-index l.parts) ≡ seen l.initial.list ++ flat_map in_part l.parts

-- what is listed so far, and what is inside of the parts left over
abbrev pub invariant-add_others-loop-other : goal.invariant-add_others-loop-other
invariant-add_others-loop-other l = seen l.list ++ flat_map in_else_if (drop l.other-index l.others) ≡ seen l.initial.list ++ flat_map in_else_if l.others
