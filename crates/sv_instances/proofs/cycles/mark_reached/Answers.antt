use Rattle.std.proofs.Common.{◌≡◌, ◌<◌, ℕ, List, [], ◌∙◌, length, subst, sym, arith}
use Rattle.std.proofs.lemmas.Grind.{common_steps}
use Rattle.std.specs.Prelude.{flat_map}
use Rattle.sv_instances.specs.Cycles.{IsSpread, parts}
use Rattle.sv_instances.proofs.Reaching.{reached_next, reached_last}
use Rattle.sv_instances.proofs.cycles.mark_reached.Goals as goal

pub returns-then-is_empty : goal.returns-then-is_empty
returns-then-is_empty c k below =
    let loop = c.loop-turn in
    let none : loop.layer.items ≡ [] = grind (arith, common_steps) in
    let P : ℕ → Type 0 = λ n. k < n in
    reached_last none (length c.args.children.now) (omega (arith, c.loop-turn-test.true)) loop.invariant.layers k (subst P (sym loop.invariant.long) below)

pub loop-turn-preserved : goal.loop-turn-preserved
loop-turn-preserved c =
    let loop = c.loop-turn in
    let P : List ℕ → Type 0 = λ ys. IsSpread loop.marks [] (flat_map (parts c.args.children.now) ys) c.next_layer.new.marks c.next_layer.new.next.items in
    let spread = subst P c.deref.ensures.value c.in_ok-next_layer.ensures in
    record {
      long = spread.long ∙ loop.invariant.long;
      layers = rw c.swap.ensures.x_after (reached_next spread loop.invariant.layers);
    }
