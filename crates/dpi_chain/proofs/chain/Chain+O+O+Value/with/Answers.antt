use Rattle.std.proofs.Common.{rules, ◌+◌, subst, ◌≡◌, ◌++◌, ◌∷◌, []}
use Rattle.std.specs.Prelude.{IfOk}
use Rattle.dpi_chain.specs.Reading.{StandsFor}
use Rattle.dpi_chain.proofs.Steps.{grows, of_ok}
use Rattle.dpi_chain.proofs.chain.Chain+O+O+Value.with.Goals as goal

pub returns : goal.returns
returns g c = λ t r.
    let closed = c.close.ensures r.high t (r.stands c.rank.result) in
    let rank = g.O.Operator.rank_of in
    let joined = g.O.Operator.joined in
    let pushed : c.push.new.self.items ≡ c.close.new.pending.items ++ record { operator = c.args.operator; left = c.in_ok-left.left } ∷ [] = search (rules) in
    let bound : c.rank.result ≡ rank c.args.operator = c.rank.ensures in
    let left : StandsFor rank joined 0 (rank c.args.operator) (rank c.args.operator) c.close.new.pending.items c.in_ok-left.left t =
    of_ok c.close.result (λ v. StandsFor rank joined 0 (rank c.args.operator) (rank c.args.operator) c.close.new.pending.items v t) c.in_ok-left.left c.in_ok-left.was
    (subst (λ n. IfOk c.close.result (λ v. StandsFor rank joined 0 n n c.close.new.pending.items v t)) bound closed) in
    record { high = rank c.args.operator + 1; stands = λ floor. rw pushed (grows rank joined 0 floor c.close.new.pending.items c.args.operator c.in_ok-left.left c.args.operand t left) }
