use Rattle.dpi_chain.proofs.Splitting.{chains_split}
use Rattle.dpi_chain.proofs.laws.chains_split.Goals as goal

pub returns : goal.returns
returns g c = chains_split {O = g.row.O.Denot} {V = g.row.O-Value.Denot} g.O.Operator.rank_of
