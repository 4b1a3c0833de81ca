use Rattle.sv_typing.proofs.Chains.{chains_kept}
use Rattle.sv_typing.proofs.laws.chains_are_kept.Goals as goal

pub returns : goal.returns
returns c = chains_kept
