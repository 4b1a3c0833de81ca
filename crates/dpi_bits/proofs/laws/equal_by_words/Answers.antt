use Rattle.dpi_bits.proofs.LawProofs.{by_words}
use Rattle.dpi_bits.proofs.laws.equal_by_words.Goals as goal

pub returns : goal.returns
returns c = by_words
