use Rattle.dpi_literal.proofs.TextLemmas.{replaced-spelled}
use Rattle.dpi_literal.proofs.texts.read_back.Goals as goal

pub returns : goal.returns
returns c = replaced-spelled
