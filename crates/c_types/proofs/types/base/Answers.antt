use Rattle.std.proofs.Common.{rules}
use Rattle.c_types.proofs.BaseTurns.{base_stops, base_goes, base_over}
use Rattle.c_types.proofs.types.base.Goals as goal

pub returns-in_default : goal.returns-in_default
returns-in_default c = let e = base_stops _ _ _ _ _ (search rules) c.loop-turn.invariant (search rules) in rw e c.base_end.ensures

pub loop-turn-preserved : goal.loop-turn-preserved
loop-turn-preserved c = base_goes _ _ _ _ _ c.in-Some.word c.in-Some.next _ _ (search rules) c.loop-turn.invariant (search rules) (search rules) (search rules)

pub returns : goal.returns
returns c = let e = base_over _ _ _ _ _ (search rules) c.loop-turn.invariant in rw e c.base_end-2.ensures
