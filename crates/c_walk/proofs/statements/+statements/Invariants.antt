use Rattle.std.proofs.Common.{◌≡◌, map, drop}
use Rattle.dpi_rules.proofs.Noting.{IsNoted}
use Rattle.c_names.specs.Scopes.{scopes_of}
use Rattle.c_walk.specs.Sight.{Sight, scopes, in_turn}
use Rattle.c_walk.specs.Around.{around_of}
use Rattle.c_walk.specs.Statements.{in_part, in_else_if}
use Rattle.c_walk.proofs.Walking.{IsFollowing}
use Rattle.c_walk.proofs.statements.+statements.Given as goal

-- the parts left over come to the same
abbrev pub invariant-walk_parts-loop-part : goal.invariant-walk_parts-loop-part
invariant-walk_parts-loop-part l =
    let of = in_part (around_of l.outside) in
    (s : Sight) → scopes_of l.initial.scopes ≡ scopes s → IsFollowing (in_turn (map of l.parts)) (in_turn (map of (drop l.part-index l.parts))) s l.initial.found (scopes_of l.scopes) l.found

-- the scopes are as they were; what is noted so far, and what the ones left over break
abbrev pub invariant-walk_others-loop-other : goal.invariant-walk_others-loop-other
invariant-walk_others-loop-other l = record {
  scopes_are : scopes_of l.scopes ≡ scopes_of l.initial.scopes;
  noted : IsNoted (λ p. in_else_if (around_of l.outside) p (scopes_of l.initial.scopes)) l.initial.found l.others (drop l.other-index l.others) l.found;
}
