use Rattle.std.proofs.Common.{◌≡◌, map, drop}
use Rattle.c_names.specs.Scopes.{scopes_of}
use Rattle.c_walk.specs.Sight.{Sight, scopes}
use Rattle.c_walk.specs.Around.{around_of}
use Rattle.c_meanings.specs.Sight.{in_turn}
use Rattle.c_meanings.specs.Statements.{in_part, in_else_if}
use Rattle.c_meanings.proofs.Adding.{IsAdding}
use Rattle.c_meanings.proofs.Telling.{IsFollowing}
use Rattle.c_meanings.proofs.statements.+statements.Given as goal

-- the parts left over come to the same
abbrev pub invariant-add_parts-loop-part : goal.invariant-add_parts-loop-part
invariant-add_parts-loop-part l =
    let of = in_part (around_of l.outside) in
    (s : Sight) → scopes_of l.initial.scopes ≡ scopes s → IsFollowing (in_turn (map of l.parts)) (in_turn (map of (drop l.part-index l.parts))) s l.initial.list.items (scopes_of l.scopes) l.list.items

-- the scopes are as they were; what is listed, and the parts left over
abbrev pub invariant-add_others-loop-other : goal.invariant-add_others-loop-other
invariant-add_others-loop-other l = record {
  scopes_are : scopes_of l.scopes ≡ scopes_of l.initial.scopes;
  adding : IsAdding (λ p. in_else_if (around_of l.outside) p (scopes_of l.initial.scopes)) l.initial.list.items l.others (drop l.other-index l.others) l.list.items;
}
