use Rattle.dpi_bits.proofs.LawProofs.{resized_back}
use Rattle.dpi_bits.proofs.laws.resized_and_back.Goals as goal

pub returns : goal.returns
returns c = resized_back
