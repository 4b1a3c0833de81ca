use Rattle.dpi_chain.proofs.Steps.{ends, mapped}
use Rattle.dpi_chain.proofs.chain.Chain+O+O+Value.value.Goals as goal

pub returns : goal.returns
returns g c = λ t r. let closed = c.close.ensures r.high t (r.stands 0) in
    mapped c.close.result _ _ (λ v h. ends g.O.Operator.rank_of g.O.Operator.joined 0 c.close.new.pending.items v t h) closed
