use Rattle.std.proofs.Common.{rules, ◌≡◌, ◌≤◌, ◌-◌, arith, length, take, Some, subst}
use Rattle.std.specs.Prelude.{slice_get}
use Rattle.std.proofs.lemmas.Grind.{common_steps}
use Rattle.dpi_chain.specs.declared.chain.Open.{Open}
use Rattle.dpi_chain.proofs.Steps.{stays_at, completes_at}
use Rattle.dpi_chain.proofs.chain.+close.Goals as goal

pub returns-then-rank-floor : goal.returns-then-rank-floor
returns-then-rank-floor g n c =
    let top : slice_get c.args.pending.now.items (length c.args.pending.now.items - 1) ≡ Some c.in-Some.last.now = grind (arith, common_steps) in
    λ high t r. stays_at g.O.Operator.rank_of g.O.Operator.joined high c.args.floor c.args.pending.now.items c.in-Some.last.now c.args.value t top (omega arith) r

pub returns : goal.returns
returns g n c =
    let front = take (length c.args.pending.now.items - 1) c.args.pending.now.items in
    let f : Open g.row.O.Denot g.row.O-Value.Denot = record { operator = c.in-Some-pop.operator; left = c.in-Some-pop.left } in
    let top : slice_get c.args.pending.now.items (length c.args.pending.now.items - 1) ≡ Some c.in-Some.last.now = grind (arith, common_steps) in
    let popped : slice_get c.args.pending.now.items (length c.args.pending.now.items - 1) ≡ Some f = grind (arith, common_steps) in
    let same : c.in-Some.last.now ≡ f = cc in
    let binds : c.args.floor ≤ g.O.Operator.rank_of c.in-Some.last.now.operator = omega arith in
    let more : c.args.floor ≤ g.O.Operator.rank_of f.operator = subst (λ (o : Open g.row.O.Denot g.row.O-Value.Denot). c.args.floor ≤ g.O.Operator.rank_of o.operator) same binds in
    let left : c.pop.new.self.items ≡ front = grind (arith, common_steps) in
    let made : c.in_ok-value.value ≡ g.O.Operator.joined f.operator f.left c.args.value = search rules in
    λ high t r.
    let s = completes_at g.O.Operator.rank_of g.O.Operator.joined high c.args.floor c.args.pending.now.items f c.args.value t popped more r in
    c.close.ensures (g.O.Operator.rank_of f.operator) t (rw (left, made) s)
